-- Facts on the branches of a result.
use Rattle.std.proofs.Common.{Ok, Err}
use Rattle.std.proofs.lemmas.Bool.{false≢true}
use Rattle.std.specs.Prelude.{Result, OnOk, OnErr, IsErr, IsOk}

pub on_ok_map : {T E A B : Type 0} (r : Result T E) → (A → B) → OnOk r A → OnOk r B
on_ok_map (Ok v) f a = f a
on_ok_map (Err e) f a = tt

pub on_err_map : {T E A B : Type 0} (r : Result T E) → (A → B) → OnErr r A → OnErr r B
on_err_map (Ok v) f a = tt
on_err_map (Err e) f a = f a

pub on_ok_err : {T E : Type 0} (A : Type 0) (r : Result T E) → IsErr r → OnOk r A
on_ok_err A (Ok v) h = absurd (false≢true h)
on_ok_err A (Err e) h = tt

pub on_err_ok : {T E : Type 0} (A : Type 0) (r : Result T E) → IsOk r → OnErr r A
on_err_ok A (Ok v) h = tt
on_err_ok A (Err e) h = absurd (false≢true h)

pub on_err : {T E A : Type 0} (r : Result T E) → A → OnErr r A
on_err (Ok v) a = tt
on_err (Err e) a = a

pub on_ok : {T E A : Type 0} (r : Result T E) → A → OnOk r A
on_ok (Ok v) a = a
on_ok (Err e) a = tt

pub of_ok : {T E A : Type 0} (r : Result T E) → IsOk r → OnOk r A → A
of_ok (Ok v) good a = a
of_ok (Err e) good a = absurd (false≢true good)

pub of_err : {T E A : Type 0} (r : Result T E) → IsErr r → OnErr r A → A
of_err (Ok v) bad a = absurd (false≢true bad)
of_err (Err e) bad a = a
