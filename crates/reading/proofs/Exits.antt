-- What an exit by `?` answers: the refusal of the call before it.
use Rattle.std.proofs.Common.{◌≡◌, ap, Err}
use Rattle.std.specs.Prelude.{Result, IsErrAnd}
use Rattle.std.proofs.lemmas.Result.{err_from_is_err_and}
use Rattle.rules.specs.declared.Refused.{Refused}

pub same_refused : {A : Type 0} (r : Result A Refused) (f : Refused) → IsErrAnd r (λ e. e ≡ f) → r ≡ Err f
same_refused r f h = let p = err_from_is_err_and r h in rw p.1 (ap Err p.2)
