-- What holds of what is answered holds of what follows from it.
use Rattle.std.specs.Prelude.{IfOk, Result, Ok, Err}

pub more : {A E : Type 0} (P Q : A → Type 0) → ((x : A) → P x → Q x) → (r : Result A E) → IfOk r P → IfOk r Q
more P Q f (Ok x) h = f x h
more P Q f (Err e) h = tt
