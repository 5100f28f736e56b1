-- What has a value under a name has that name.
use Rattle.std.proofs.Common.{◌≡◌, ℕ, true, List, Option, Some, None, refl, ap}
use Rattle.std.specs.Prelude.{is_some}
use Rattle.policy_values.specs.declared.entity_uid.EntityUID.{EntityUID}
use Rattle.entity_store.specs.Store.{StoredEntity, Store, entity_at}
use Rattle.policy_values.specs.Value.{Val, truth, long, string, entity, set, rec, decimal, ip, datetime, duration, field_at}
use Rattle.policy_core.specs.declared.outcome.EvalError.TheVariants.{MissingAttribute}
use Rattle.policy_core.specs.declared.outcome.Outcome.{Outcome}
use Rattle.policy_core.specs.declared.outcome.Outcome.TheVariants.{Value, Error}
use Rattle.policy_core.specs.Eval.{with_value}
use Rattle.policy_core.specs.Operators.{attr_of, found_or, has_of, attr_value, has_value}

found : (o : Option Val) (w : Val) → found_or MissingAttribute o ≡ Value w → is_some o ≡ true
found None w h = cc
found (Some v) w h = refl

found_in : (u : EntityUID) (e : Option StoredEntity) (k : List ℕ) (w : Val) → attr_of u e k ≡ Value w → has_of e k ≡ true
found_in u None k w h = cc
found_in u (Some e) k w h = found (field_at e.attrs k) w h

has_entry : (v : Val) (k : List ℕ) (s : Store) (w : Val) → attr_value v k s ≡ Value w → has_value v k s ≡ Value (truth true)
has_entry (entity u) k s w h = ap (λ b. Value (truth b)) (found_in u (entity_at s u) k w h)
has_entry (rec fs) k s w h = ap (λ b. Value (truth b)) (found (field_at fs k) w h)
has_entry (truth b) k s w h = cc
has_entry (long i) k s w h = cc
has_entry (string t) k s w h = cc
has_entry (set vs) k s w h = cc
has_entry (decimal d) k s w h = cc
has_entry (ip r) k s w h = cc
has_entry (datetime d) k s w h = cc
has_entry (duration d) k s w h = cc

pub has_where_entry : (o : Outcome) (k : List ℕ) (s : Store) (w : Val) → with_value o (λ v. attr_value v k s) ≡ Value w → with_value o (λ v. has_value v k s) ≡ Value (truth true)
has_where_entry (Value v) k s w h = has_entry v k s w h
has_where_entry (Error e) k s w h = cc
