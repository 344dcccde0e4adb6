-- What holds of results.
use Rattle.std.proofs.Common.{◌≡◌, Result, Ok, Err, IfErr, IfOk}

-- what holds where something else does
pub if_ok : {X E : Type 0} {P Q : X → Type 0} (result : Result X E) → ((x : X) → P x → Q x) → IfOk result P → IfOk result Q
if_ok (Ok x) then holds = then x holds
if_ok (Err e) then holds = tt

-- and of an error
pub if_err : {X E : Type 0} {P Q : E → Type 0} (result : Result X E) → ((e : E) → P e → Q e) → IfErr result P → IfErr result Q
if_err (Ok x) then holds = tt
if_err (Err e) then holds = then e holds

-- what two hold is the same where they are
pub inner : {X E : Type 0} {x y : X} → ◌≡◌ {A = Result X E} (Ok x) (Ok y) → x ≡ y
inner e = cc e

-- what holds where three others do
pub all_ok : {X E : Type 0} {P Q R S : X → Type 0} (result : Result X E) → ((x : X) → P x → Q x → R x → S x) → IfOk result P → IfOk result Q → IfOk result R → IfOk result S
all_ok (Ok x) then one other third = then x one other third
all_ok (Err e) then one other third = tt
