-- What is asked of sets.
use Rattle.std.specs.Prelude.{Bool, true, false, ◌||◌, ◌&&◌}
use Rattle.std.specs.Ordering.{is_eq}
use Rattle.policy_values.specs.Value.{Val, set, Vals, no_vals, val}
use Rattle.policy_values.specs.ValueOrder.{val_cmp}

-- the elements of a set; no other value has any
abbrev pub elements_of : Val → Vals
elements_of (set vs) = vs
elements_of v = no_vals

-- there is no element
abbrev pub is_empty : Vals → Bool
is_empty no_vals = true
is_empty (val v vs) = false

-- some element equals the value
abbrev pub is_element : Val → Vals → Bool
is_element v no_vals = false
is_element v (val w ws) = is_eq (val_cmp v w) || is_element v ws

-- each element of the second is one of the first
abbrev pub has_all : Vals → Vals → Bool
has_all vs no_vals = true
has_all vs (val w ws) = is_element w vs && has_all vs ws

-- some element of the second is one of the first
abbrev pub has_some : Vals → Vals → Bool
has_some vs no_vals = false
has_some vs (val w ws) = is_element w vs || has_some vs ws
