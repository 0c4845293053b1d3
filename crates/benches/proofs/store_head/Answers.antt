-- `store_head`: zeros, and eleven bytes written over them.
use Rattle.std.proofs.Common.{◌≡◌, ap, ◌∙◌, ℕ, List, cond, length, set, replicate, arith}
use Rattle.rules.specs.Sizes.{bench_size}
use Rattle.benches.specs.StoreLaws.{bool_byte_lem, put16, put32, head_stored}
use Rattle.benches.proofs.store_head.Goals as goal

pub returns : goal.returns
returns c =
    let a = c.args in
    let long : length a.bench.now ≡ bench_size = omega arith in
    let zeros : c.fill.new.self ≡ replicate bench_size 0 = c.fill.ensures.after (λ y e. e) ∙ ap (λ (n : ℕ). replicate n 0) long in
    c.put_u32.ensures
    ∙ ap (λ (l : List ℕ). put32 7 a.carried.0 l) c.put_u16-2.ensures
    ∙ ap (λ (l : List ℕ). put32 7 a.carried.0 (put16 5 a.clumps (set l 4 c.from.result))) c.put_u16.ensures
    ∙ rw (zeros, c.from.ensures, bool_byte_lem) (head_stored a.opened (cond a.held 1 0) a.clumps a.carried.0)
