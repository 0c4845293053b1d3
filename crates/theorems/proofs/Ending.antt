-- What a run ends with, by netlength (demand 2): a run of a row that was read ends with the leftmost shortest placement, and there is one only.
use Rattle.std.specs.Prelude.{ℕ, ◌≡◌, List, true}
use Rattle.std.proofs.Common.{sym, ◌∙◌, arith, le_antisymm, ext_get_or}
use Rattle.rules.specs.Row.{Row}
use Rattle.rules.specs.Length.{netlength}
use Rattle.rules.specs.Steps.{finished, run}
use Rattle.rules.specs.Bench.{fresh}
use Rattle.rules.specs.Calls.{positions}
use Rattle.reading.specs.Sound.{Sound}
use Rattle.theorems.specs.LegalReach.{legal_rises}
use Rattle.theorems.specs.Shortest.{ShortestPlaced, best_shortest}
use Rattle.theorems.proofs.ShortestLaws.{finished_best}
use Rattle.theorems.proofs.BalanceLaws.{balanced}
use Rattle.theorems.specs.Terms.{LeftmostShortest}

pub run_ends_leftmost : (R : Row) → Sound R → (k : ℕ) → finished R (run R k fresh) ≡ true → LeftmostShortest R (positions R (run R k fresh))
run_ends_leftmost R s k f = go (best_shortest R (positions R (run R k fresh)) (balanced R s) (finished_best R s.fits k f))
  where
    go : ShortestPlaced R (positions R (run R k fresh)) → LeftmostShortest R (positions R (run R k fresh))
    go B = record { is_legal = B.is_legal; shortest = B.shortest; leftmost = λ qs l e. B.leftmost qs l (omega arith) }

pub only_one : (R : Row) (ps qs : List ℕ) → LeftmostShortest R ps → LeftmostShortest R qs → ps ≡ qs
only_one R ps qs P Q =
    ext_get_or 0 ps qs ((legal_rises R ps P.is_legal).0 ∙ sym (legal_rises R qs Q.is_legal).0)
    (λ i _. le_antisymm (P.leftmost qs Q.is_legal (sym same) i) (Q.leftmost ps P.is_legal same i))
  where
    same : netlength R ps ≡ netlength R qs
    same = omega (arith, P.shortest qs Q.is_legal, Q.shortest ps P.is_legal)
