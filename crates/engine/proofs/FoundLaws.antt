-- What the clump in hand does next: it settles at the limit, where what is wanted is not reached up to there; or a walk down its heap that went past
-- where the last settled clump stands tells.
use Rattle.std.specs.Prelude.{◌≡◌, ℕ, ◌+◌, ◌≤◌, ◌<◌, ◌⊎◌, List}
use Rattle.std.proofs.Common.{arith, inl, inr, ⊎_elim}
use Rattle.rules.specs.declared.Change.{Change}
use Rattle.changes.specs.Fills.{Weighed, lefts, Filled}
use Rattle.changes.specs.FillLaws.{filled_least, lefts_rise}
use Rattle.changes.specs.Steps.{Descended}
use Rattle.changes.specs.declared.Kept.{Kept}
use Rattle.changes.specs.declared.Stop.TheVariants.{Passed}
use Rattle.engine.specs.Taken.{FoundAs}
use Rattle.engine.specs.declared.Next.TheVariants.{Joins, Settles}

-- the walk begins not left of where it may end
pub walks : (last cap limit : ℕ) → last ≤ limit → (last ≤ cap) ⊎ (cap ≡ limit) → last ≤ cap
walks last cap limit h far = ⊎_elim (λ (l : last ≤ cap). l) (λ (e : cap ≡ limit). omega arith) far

module _ (cs : List Change) (base end want start last limit : ℕ) (keys : List ℕ) (k : Kept) where
  pub found_limit : Weighed cs base end → Filled keys cs base base end k → k.cap ≤ limit → (last ≤ k.cap) ⊎ (k.cap ≡ limit)
      → (want ≤ k.sum) ⊎ (limit ≤ k.cap) → last ≤ limit → k.sum < want → FoundAs keys cs base end want start last limit (Settles k)
  found_limit weighed f near far sure h g =
      let cap : k.cap ≡ limit = ⊎_elim (λ (e : want ≤ k.sum). omega arith) (λ (e : limit ≤ k.cap). omega arith) sure in
      let short : lefts k.cap cs base end < want = omega (arith, filled_least weighed f) in
      record {
        filled = f;
        near = near;
        far = far;
        by =
            record {
              within = h;
              reached = inr cap;
              first = λ l. short;
              stays = inr (omega (arith, lefts_rise cs base end last k.cap (omega arith)));
            };
      }

  module _ (cap : ℕ) (near : cap ≤ limit) (h : last ≤ limit) (d : Descended keys cs base end want last cap (Passed k)) where
    pub found_past : 0 < last + start → want < k.sum → FoundAs keys cs base end want start last limit (Joins k)
    found_past some more =
        record { filled = d.filled; near = omega (arith, d.near); far = inl d.low; by = inr (some, omega (arith, d.stopped.1)) }

    pub found_stays : (last + start ≡ 0) ⊎ (k.sum ≤ want) → FoundAs keys cs base end want start last limit (Settles k)
    found_stays stays =
        record {
          filled = d.filled;
          near = omega (arith, d.near);
          far = inl d.low;
          by =
              record {
                within = h;
                reached = inl d.reached;
                first = d.first;
                stays = ⊎_elim (λ (z : last + start ≡ 0). inl z) (λ (l : k.sum ≤ want). inr (omega (arith, d.stopped.1))) stays;
              };
        }
