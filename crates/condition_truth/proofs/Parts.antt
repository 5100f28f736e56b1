-- Answers that there may be none of.
use Rattle.std.proofs.Common.{List, [], ◌∷◌, ◌++◌, Option, Some, None, IfSome}
use Rattle.std.specs.Prelude.{option_map}
use Rattle.std.specs.Option.{option_and_then}
use Rattle.entity_store.specs.declared.request.Request.{Request}
use Rattle.entity_store.specs.Store.{Store}
use Rattle.typing_spec.specs.Capability.{Capability}
use Rattle.typing_spec.specs.Holds.{AllHold}

pub when_some : {A B : Type 0} (P : A → Type 0) (Q : B → Type 0) (f : A → Option B) (o : Option A) → IfSome o P → ((x : A) → P x → IfSome (f x) Q) → IfSome (option_and_then f o) Q
when_some P Q f None h k = tt
when_some P Q f (Some x) h k = k x h

pub mapped : {A B : Type 0} (P : A → Type 0) (Q : B → Type 0) (f : A → B) (o : Option A) → IfSome o P → ((x : A) → P x → Q (f x)) → IfSome (option_map f o) Q
mapped P Q f None h k = tt
mapped P Q f (Some x) h k = k x h

pub any_mapped : {A B : Type 0} (Q : B → Type 0) (f : A → B) (o : Option A) → ((x : A) → Q (f x)) → IfSome (option_map f o) Q
any_mapped Q f None k = tt
any_mapped Q f (Some x) k = k x

pub both_some : {A : Type 0} (P Q R : A → Type 0) (o : Option A) → IfSome o P → IfSome o Q → ((x : A) → P x → Q x → R x) → IfSome o R
both_some P Q R None h i k = tt
both_some P Q R (Some x) h i k = k x h i

pub later : {A : Type 0} (H : Type 0) (P : A → Type 0) (o : Option A) → (H → IfSome o P) → IfSome o (λ x. H → P x)
later H P None k = tt
later H P (Some x) k = k

pub all_append : (q : Request) (s : Store) (cs ds : List Capability) → AllHold q s cs → AllHold q s ds → AllHold q s (cs ++ ds)
all_append q s [] ds h k = k
all_append q s (c ∷ cs) ds h k = (h.0, all_append q s cs ds h.1 k)
