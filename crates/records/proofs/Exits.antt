-- What an exit by `?` answers: the refusal of the call before it.
use Rattle.std.proofs.Common.{◌≡◌, ap, Err}
use Rattle.std.specs.Prelude.{Result, IsErrAnd}
use Rattle.std.proofs.lemmas.Result.{err_from_is_err_and}
use Rattle.rules.specs.declared.Refusal.{Refusal}

pub same_refusal : {A : Type 0} (r : Result A Refusal) (q : Refusal) → IsErrAnd r (λ e. e ≡ q) → r ≡ Err q
same_refusal r q h = let p = err_from_is_err_and r h in rw p.1 (ap Err p.2)
