-- What the parts of a pattern, and a list of two items, are.
use Rattle.std.proofs.Common.{◌≡◌, ◌≢◌, ℕ, length, List, [], ◌∷◌, map, true, false, Some, None, is_some, arith, refl}
use Rattle.std.specs.Str.{chars}
use Rattle.policy_expressions.specs.declared.kinds.PatternElem.TheVariants.{Char, Wildcard}
use Rattle.json.specs.declared.value.Value.{Value}
use Rattle.serde_json.specs.Data.{Data, null, boolean, number, string, array, object}
use Rattle.serde_json.specs.Find.{as_null, as_str}
use Rattle.json_values.specs.Json.{pair_of}
use Rattle.json_trees.specs.Trees.{trees_view}
use Rattle.json_expressions.specs.Parts.{elements_of}

pub null_element : (d : Data) → is_some (as_null d) ≡ true → elements_of d ≡ Some (Wildcard ∷ [])
null_element null e = refl
null_element (boolean b) e = cc
null_element (number n) e = cc
null_element (string t) e = cc
null_element (array ds) e = cc
null_element (object ms) e = cc

pub text_elements : (d : Data) (t : List ℕ) → Some t ≡ as_str d → elements_of d ≡ Some (map Char (chars t))
text_elements null t e = cc
text_elements (boolean b) t e = cc
text_elements (number n) t e = cc
text_elements (string s) t e = cc
text_elements (array ds) t e = cc
text_elements (object ms) t e = cc

pub no_elements : (d : Data) → is_some (as_null d) ≡ false → None ≡ as_str d → elements_of d ≡ None
no_elements null e f = cc
no_elements (boolean b) e f = refl
no_elements (number n) e f = refl
no_elements (string t) e f = cc
no_elements (array ds) e f = refl
no_elements (object ms) e f = refl

pub no_pair : {A : Type 0} (ts : List (Value A)) → length ts ≢ 2 → None ≡ pair_of (trees_view ts)
no_pair [] h = refl
no_pair (t ∷ []) h = refl
no_pair (t ∷ s ∷ []) h = absurd (omega arith)
no_pair (t ∷ s ∷ r ∷ ts) h = refl
