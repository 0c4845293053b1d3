-- Back and there: a bench whose clumps are made of the row's cells, written as bytes, is said by them, is what they stand for, and is in form.
-- So a run may be cut into slices anywhere, and the next slice goes on from the bytes.
use Rattle.std.specs.Prelude.{◌≡◌, true, get_or, drop}
use Rattle.std.proofs.Math.Path.{refl}
use Rattle.std.proofs.Common.{sym, ap, ap₂, ◌∙◌, ⊎_elim, arith, eq-or-lt_of_le, le_of_suc-le-suc, length-append, drop_at}
use Prim.Native.Nat.{ℕ, ◌+◌, ◌-◌, ◌*◌, ◌≤◌, ◌<◌}
use mathlib.Core.List.{List, [], ◌∷◌, ◌++◌, reverse, reverse-cons, append-nil, append_assoc}
use Rattle.std.proofs.Math.ListN.{length, replicate}
use Rattle.std.proofs.lemmas.List.{length-reverse, length-replicate}
use Rattle.numbers.specs.Bytes.{u16_at, u32_at, u16_bytes, u32_bytes}
use Rattle.numbers.specs.BytesLaws.{u16_read, u32_read, u16_read_after, u32_read_after}
use Rattle.rules.specs.Sizes.{widest, most_cells, most_carried, head_size, part_size, bench_size}
use Rattle.rules.specs.Row.{Row}
use Rattle.rules.specs.Steps.{Clump, Hand, empty, holding, Bench}
use Rattle.rules.specs.Bench.{hand_byte, hand_clump, hand_edge, clumps_of, parts, bench_bytes, saved_hand, saved_clumps, saved_cells, cells_before, bench_of, all_zero, apart, in_form}
use Rattle.slopes.specs.Forgotten.{cells_in, AllMade, all_clumps, Proper, Says, SaysBench, bench_again}
use Rattle.slopes.specs.Apart.{apart_end, apart_rest, proper_clumps}
use Rattle.benches.specs.Saved.{head_bytes}
use Rattle.benches.specs.ZeroLaws.{all_zero_lem}
use Rattle.benches.specs.FormLaws.{in_form_lem, settled_are, hand_edge_is}
use Rattle.benches.specs.StoreLaws.{head_length, parts_length, parts_snoc, bench_bytes_lem}

-- ---- the bytes by all clumps, the last one first

clumps_reversed : (hand : Hand) (settled : List Clump) → reverse settled ++ hand_clump hand ≡ reverse (all_clumps hand settled)
clumps_reversed empty settled = append-nil (reverse settled)
clumps_reversed (holding c) settled = sym (reverse-cons c settled)

pub bytes_by_all :
    (b : Bench) → let all = all_clumps b.hand b.settled in
    bench_bytes b ≡ head_bytes b.opened (hand_byte b.hand) (length all) b.carried ++ (parts (reverse all) ++ replicate (part_size * most_cells - part_size * length all) 0)
unfolding clumps_of
bytes_by_all b =
    let all = all_clumps b.hand b.settled in
    let same : clumps_of b ≡ reverse all = clumps_reversed b.hand b.settled in
    let head : ℕ → List ℕ = λ n. head_bytes b.opened (hand_byte b.hand) n b.carried in
    let zeros : List ℕ = replicate (part_size * most_cells - part_size * length all) 0 in
    bench_bytes_lem b
    ∙ ap₂ (λ (n : ℕ) (cs : List Clump). (head n ++ parts cs) ++ replicate (part_size * most_cells - part_size * n) 0) (ap length same ∙ length-reverse all) same
    ∙ append_assoc (head (length all)) (parts (reverse all)) zeros

-- ---- each clump is said

-- edges below a limit
abbrev EdgesBelow : ℕ → List Clump → Type 0
EdgesBelow limit [] = Unit {0}
EdgesBelow limit (c ∷ cs) = (c.edge < limit) × EdgesBelow limit cs

apart_edges : (width limit : ℕ) (cs : List Clump) → apart width cs ≡ true → width < limit → EdgesBelow limit cs
apart_edges width limit [] h l = tt
apart_edges width limit (c ∷ cs) h l = (omega (arith, apart_end width (c ∷ cs) h), apart_edges width limit cs (apart_rest width c cs h) l)

says_each :
    (s head : List ℕ) → length head ≡ head_size →
    (cs : List Clump) (rest : List ℕ) → s ≡ head ++ (parts (reverse cs) ++ rest) →
    cells_in cs < 65536 → EdgesBelow 4294967296 cs → Says s cs
unfolding cells_in
says_each s head h [] rest e small edges = tt
says_each s head h (c ∷ cs) rest e small edges =
    let before = parts (reverse cs) in
    let cells = u16_bytes c.cells in
    let edge = u32_bytes c.edge in
    let split : s ≡ head ++ (before ++ (cells ++ (edge ++ rest))) =
    e ∙ ap (λ (l : List ℕ). head ++ l) (ap (λ (l : List ℕ). l ++ rest) (parts_snoc cs c) ∙ append_assoc before (cells ++ edge) rest) in
    let at_cells : s ≡ (head ++ before) ++ (cells ++ (edge ++ rest)) = split ∙ sym (append_assoc head before (cells ++ (edge ++ rest))) in
    let at_edge : s ≡ ((head ++ before) ++ cells) ++ (edge ++ rest) = at_cells ∙ sym (append_assoc (head ++ before) cells (edge ++ rest)) in
    let long : head_size + part_size * length cs ≡ length (head ++ before) = omega (arith, length-append head before, parts_length (reverse cs), length-reverse cs) in
    let longer : head_size + part_size * length cs + 2 ≡ length ((head ++ before) ++ cells) = omega (arith, length-append (head ++ before) cells) in (
      ap₂ (λ (l : List ℕ) (k : ℕ). u16_at l k) at_cells long ∙ u16_read_after (head ++ before) c.cells (edge ++ rest) (omega arith),
      (
        ap₂ (λ (l : List ℕ) (k : ℕ). u32_at l k) at_edge longer ∙ u32_read_after ((head ++ before) ++ cells) c.edge rest edges.0,
        says_each s head h cs ((cells ++ edge) ++ rest) split (omega arith) edges.1,
      ),
    )

-- what is said of made clumps: each has cells, and they add up
said_some : (R : Row) (s : List ℕ) (cs : List Clump) → AllMade R cs → Says s cs → (k : ℕ) → k < length cs → 1 ≤ saved_cells s k
said_some R s [] m h k l = absurd (omega arith)
said_some R s (c ∷ cs) m h k l =
    ⊎_elim
    (λ (e : k ≡ length cs). rw (e, h.0) m.0.some)
    (λ (lt : k < length cs). said_some R s cs m.1 h.1.1 k lt)
    (eq-or-lt_of_le (le_of_suc-le-suc l))

said_cells : (s : List ℕ) (cs : List Clump) → Says s cs → cells_before s (length cs) ≡ cells_in cs
unfolding cells_before cells_in
said_cells s [] h = refl
said_cells s (c ∷ cs) h = omega (arith, said_cells s cs h.1.1, h.0)

-- ---- the bench is said, and made again

module _
    (R : Row) (b : Bench)
    (proper : Proper R b)
    (opened : b.opened ≤ most_cells)
    (carried : b.carried < 4294967296)
    (wide : R.width ≤ widest)
    (settled : apart R.width b.settled ≡ true)
  where
    abbrev all : List Clump
    all = all_clumps b.hand b.settled

    edges_below : (hand : Hand) → hand_edge hand ≡ 0 → EdgesBelow 4294967296 (all_clumps hand b.settled)
    edges_below empty e = apart_edges R.width 4294967296 b.settled settled (omega arith)
    edges_below (holding c) e = (omega arith, apart_edges R.width 4294967296 b.settled settled (omega arith))

    abbrev head : List ℕ
    head = head_bytes b.opened (hand_byte b.hand) (length all) b.carried

    few : length all ≤ most_cells
    few = omega (arith, proper_clumps R b proper)

    pub said : SaysBench (bench_bytes b) b
    unfolding head_bytes
    said =
        let zeros : List ℕ = replicate (part_size * most_cells - part_size * length all) 0 in
        rw (bytes_by_all b)
        (record {
          say_opened = u16_read b.opened [] (omega arith);
          say_hand = refl;
          say_clumps = u16_read (length all) [] (omega (arith, few));
          say_carried = u32_read b.carried [] carried;
          say_each = says_each (head ++ (parts (reverse all) ++ zeros)) head refl all zeros refl (omega (arith, proper.all_cells)) (edges_below b.hand proper.hand_edge);
        })

    pub back_and_there : bench_of R (bench_bytes b) ≡ b
    back_and_there = bench_again R (bench_bytes b) b proper said

    -- ---- and in form

    pub bytes_length : length (bench_bytes b) ≡ bench_size
    bytes_length =
        let zeros : List ℕ = replicate (part_size * most_cells - part_size * length all) 0 in
        rw (bytes_by_all b)
        (omega (
          arith,
          few,
          head_length b.opened (hand_byte b.hand) (length all) b.carried,
          length-append head (parts (reverse all) ++ zeros),
          length-append (parts (reverse all)) zeros,
          parts_length (reverse all),
          length-reverse all,
          length-replicate {A = ℕ} (part_size * most_cells - part_size * length all) 0,
        ))

    zeros_behind : all_zero (drop (head_size + part_size * length all) (bench_bytes b)) ≡ true
    zeros_behind =
        let zeros : List ℕ = replicate (part_size * most_cells - part_size * length all) 0 in
        let front : length (head ++ parts (reverse all)) ≡ head_size + part_size * length all =
        omega (
          arith,
          head_length b.opened (hand_byte b.hand) (length all) b.carried,
          length-append head (parts (reverse all)),
          parts_length (reverse all),
          length-reverse all,
        ) in
        ap (λ (l : List ℕ). all_zero (drop (head_size + part_size * length all) l)) (bytes_by_all b ∙ sym (append_assoc head (parts (reverse all)) zeros))
        ∙ ap all_zero (drop_at (head ++ parts (reverse all)) zeros (head_size + part_size * length all) front)
        ∙ all_zero_lem (part_size * most_cells - part_size * length all)

    marks : (get_or (bench_bytes b) 0 0 ≡ 0x42) × (get_or (bench_bytes b) 1 0 ≡ 0x4e)
    unfolding head_bytes
    marks = rw (bytes_by_all b) (refl, refl)

    hand_bit : (hand : Hand) → (hand_byte hand ≤ 1) × (hand_byte hand ≤ length (all_clumps hand b.settled))
    hand_bit empty = (omega arith, omega arith)
    hand_bit (holding c) = (omega arith, omega arith)

    pub left_in_form : b.opened ≤ length R.widths → b.carried ≤ most_carried → in_form R (bench_bytes b) ≡ true
    left_in_form within limit =
        let s = bench_bytes b in
        let n : saved_clumps s ≡ length all = said.say_clumps in
        let bit = hand_bit b.hand in
        let one : saved_hand s ≤ 1 = omega (arith, said.say_hand) in
        let held : saved_hand s ≤ saved_clumps s = omega (arith, said.say_hand) in
        in_form_lem R s
        (record {
          mark_b = marks.0;
          mark_n = marks.1;
          few = omega (arith, few);
          zeros = rw n zeros_behind;
          within = omega (arith, said.say_opened);
          have_cells = λ k l. said_some R s all proper.all_made said.say_each k (omega arith);
          add_up = ap (λ (k : ℕ). cells_before s k) n ∙ said_cells s all said.say_each ∙ proper.all_cells ∙ sym said.say_opened;
          hand_bit = one;
          hand_clump = held;
          carried_few = omega (arith, said.say_carried);
          stand_apart = ap (λ (cs : List Clump). apart R.width cs) (sym (settled_are R s one held) ∙ ap (λ (c : Bench). c.settled) back_and_there) ∙ settled;
          hand_edge = λ e. sym (hand_edge_is R s e (omega arith)) ∙ ap (λ (c : Bench). hand_edge c.hand) back_and_there ∙ proper.hand_edge;
        })
