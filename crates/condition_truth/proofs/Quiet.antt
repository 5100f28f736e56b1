-- Operators that end with no allowed error.
use Rattle.std.proofs.Common.{ℕ, Bool, ℤ, List, Option, Some, None}
use Rattle.policy_ext.specs.IpAddr.{Range}
use Rattle.policy_values.specs.Value.{Val, truth, long, string, entity, set, rec, decimal, ip, datetime, duration, Vals, no_vals, val}
use Rattle.policy_values.specs.declared.entity_uid.EntityUID.{EntityUID}
use Rattle.entity_store.specs.Store.{Store}
use Rattle.policy_expressions.specs.declared.kinds.PatternElem.{PatternElem}
use Rattle.policy_core.specs.declared.outcome.EvalError.TheVariants.{MissingAttribute, MissingTag}
use Rattle.policy_core.specs.declared.outcome.Outcome.{Outcome}
use Rattle.policy_core.specs.declared.outcome.Outcome.TheVariants.{Value, Error}
use Rattle.policy_core.specs.Operators.{unary_value, within, or_within, within_any, in_value, compared, contains_value, contains_all_value, contains_any_value, found_or, has_tag_value, has_value, like_value, is_value}
use Rattle.policy_core.specs.Calls.{read_as, constructed, of_range, of_ranges, of_decimals, of_datetime, of_duration, since_start}
use Rattle.policy_expressions.specs.declared.kinds.UnaryOp.TheVariants.{Not, IsEmpty}
use Rattle.condition_truth.proofs.Outcomes.{Quiet}

pub quiet_not : (v : Val) → Quiet (unary_value Not v)
quiet_not (truth b) = tt
quiet_not v = λ a. a

pub quiet_empty : (v : Val) → Quiet (unary_value IsEmpty v)
quiet_empty (set vs) = tt
quiet_empty v = λ a. a

pub quiet_compared : (test : ℤ → ℤ → Bool) (v w : Val) → Quiet (compared test v w)
quiet_compared test (long m) (long n) = tt
quiet_compared test (datetime m) (datetime n) = tt
quiet_compared test (duration m) (duration n) = tt
quiet_compared test v w = λ a. a

or_quiet : (b : Bool) (o : Outcome) → Quiet o → Quiet (or_within b o)
or_quiet b (Value (truth c)) k = tt
or_quiet b (Value v) k = tt
or_quiet b (Error e) k = k

quiet_any : (x : EntityUID) (vs : Vals) (s : Store) → Quiet (within_any x vs s)
quiet_any x no_vals s = tt
quiet_any x (val (entity y) ys) s = or_quiet (within x y s) (within_any x ys s) (quiet_any x ys s)
quiet_any x (val v ys) s = λ a. a

pub quiet_in : (v w : Val) (s : Store) → Quiet (in_value v w s)
quiet_in (entity x) (entity y) s = tt
quiet_in (entity x) (set ys) s = quiet_any x ys s
quiet_in v w s = λ a. a

pub quiet_contains : (v w : Val) → Quiet (contains_value v w)
quiet_contains (set vs) w = tt
quiet_contains v w = λ a. a

pub quiet_all : (v w : Val) → Quiet (contains_all_value v w)
quiet_all (set vs) (set ws) = tt
quiet_all v w = λ a. a

pub quiet_some : (v w : Val) → Quiet (contains_any_value v w)
quiet_some (set vs) (set ws) = tt
quiet_some v w = λ a. a

pub quiet_has_tag : (v w : Val) (s : Store) → Quiet (has_tag_value v w s)
quiet_has_tag (entity u) (string k) s = tt
quiet_has_tag v w s = λ a. a

pub quiet_has : (v : Val) (n : List ℕ) (s : Store) → Quiet (has_value v n s)
quiet_has (entity u) n s = tt
quiet_has (rec fs) n s = tt
quiet_has v n s = λ a. a

pub quiet_like : (v : Val) (p : List PatternElem) → Quiet (like_value v p)
quiet_like (string t) p = tt
quiet_like v p = λ a. a

pub quiet_is : (v : Val) (n : List ℕ) → Quiet (is_value v n)
quiet_is (entity u) n = tt
quiet_is v n = λ a. a

pub quiet_attribute : (o : Option Val) → Quiet (found_or MissingAttribute o)
quiet_attribute (Some v) = tt
quiet_attribute None = λ a. a

pub quiet_tag : (o : Option Val) → Quiet (found_or MissingTag o)
quiet_tag (Some v) = tt
quiet_tag None = λ a. a

-- calls
quiet_read : {X : Type 0} (make : X → Val) (o : Option X) → Quiet (read_as make o)
quiet_read make (Some x) = tt
quiet_read make None = λ a. a

pub quiet_made : {X : Type 0} (make : X → Val) (read : List ℕ → Option X) (v : Val) → Quiet (constructed make read v)
quiet_made make read (string t) = quiet_read make (read t)
quiet_made make read v = λ a. a

pub quiet_range : (test : Range → Bool) (v : Val) → Quiet (of_range test v)
quiet_range test (ip r) = tt
quiet_range test v = λ a. a

pub quiet_ranges : (test : Range → Range → Bool) (v w : Val) → Quiet (of_ranges test v w)
quiet_ranges test (ip r) (ip s) = tt
quiet_ranges test v w = λ a. a

pub quiet_decimals : (test : ℤ → ℤ → Bool) (v w : Val) → Quiet (of_decimals test v w)
quiet_decimals test (decimal m) (decimal n) = tt
quiet_decimals test v w = λ a. a

pub quiet_duration : (f : ℤ → ℤ) (v : Val) → Quiet (of_duration f v)
quiet_duration f (duration n) = tt
quiet_duration f v = λ a. a

pub quiet_time : (v : Val) → Quiet (of_datetime since_start v)
quiet_time (datetime n) = tt
quiet_time v = λ a. a
