-- What the trait says beyond the clauses of the calls: of files that don't tell, each clause on contents holds.
use Rattle.std.proofs.Common.{refl}
use Rattle.std.specs.Prelude.{false, IsTrue, Result, Ok, Err, IfOk, OnErr}
use Rattle.rc_io.proofs.real.RealFilesFiles.TheImpl.Goals as goal

-- nothing is told
not_told : {P : Type 0} → IsTrue false → P
not_told told = cc

-- what holds of every value holds of the value of a result
at_ok : {T E : Type 0} (result : Result T E) (P : T → Type 0) → ((value : T) → P value) → IfOk result P
at_ok (Ok value) P holds = holds value
at_ok (Err error) P holds = tt

-- what holds anyhow holds after an error
at_err : {T E P : Type 0} (result : Result T E) → P → OnErr result P
at_err (Ok value) holds = tt
at_err (Err error) holds = holds

-- what follows from what holds after an error
from_err : {T E P Q : Type 0} (result : Result T E) → (P → Q) → OnErr result P → OnErr result Q
from_err (Ok value) follows holds = tt
from_err (Err error) follows holds = follows holds

pub begin-tells : goal.begin-tells
begin-tells g c = record {
  tells = refl;
  text = λ name. refl;
  begun = c.ensures.begun;
  rest = at_ok c.result _ (λ value told. not_told told);
  later = λ name. c.ensures.later;
  cause = c.ensures.cause;
}

pub read-tells : goal.read-tells
read-tells g c = record {
  tells = refl;
  text = λ name. refl;
  begun = c.ensures.begun;
  count = c.ensures.count;
  bytes = at_ok c.result _ (λ value told. not_told told);
  end = at_ok c.result _ (λ value told. not_told told);
  err = at_err c.result refl;
  later = λ name. c.ensures.later;
  cause = from_err c.result (λ rose name begun. rose) c.ensures.cause;
}
