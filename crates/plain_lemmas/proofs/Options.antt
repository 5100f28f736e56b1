-- What follows of options by their cases alone.
use Rattle.std.proofs.Common.{◌≡◌, Bool, true, false, ◌||◌, cond, Option, Some, None, is_some, refl}

pub none_of_no_some : {X : Type 0} (o : Option X) → is_some o ≡ false → o ≡ None
none_of_no_some None h = refl
none_of_no_some (Some x) h = cc

pub some_injective : {X : Type 0} {x y : X} → Some x ≡ Some y → x ≡ y
some_injective h = cc h

pub is_some_cond : {X : Type 0} (b : Bool) (x : X) (o : Option X) → is_some (cond b (Some x) o) ≡ (b || is_some o)
is_some_cond true x o = refl
is_some_cond false x o = refl
