-- What a search has answered, from the step that goes on where it has found something and refuses where it has not.
use mathlib.Core.Path.{◌≡◌, refl}
use Rattle.std.specs.Prelude.{Ok, Err, Option, Some, None}
use Rattle.std.specs.Option.{ok_or}

pub found : {A E : Type 0} (x : Option A) (e : E) {y : A} → Ok y ≡ ok_or x e → x ≡ Some y
found (Some x) e q = cc
found None e q = cc

pub found_none : {A E : Type 0} (x : Option A) (e : E) {f : E} → Err f ≡ ok_or x e → (x ≡ None) × (f ≡ e)
found_none None e q = (refl, cc)
found_none (Some x) e q = cc
