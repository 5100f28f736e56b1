-- Expressions in JSON.
use Rattle.std.specs.Prelude.{ℕ, List, [], Bool, ◌&&◌, if◌then◌else◌, Option, Some, None, option_map, option_and_then, codes}
use Rattle.std.specs.Str.{bytes_eq}
use Rattle.policy_expressions.specs.Tree.{lit}
use Rattle.policy_expressions.specs.declared.kinds.Literal.TheVariants as literal
use Rattle.serde_json.specs.Data as json
use Rattle.serde_json.specs.Data.{Data, null, boolean, number, array, object, Items, no_items, item, Members, no_members, member}
use Rattle.json_expressions.specs.Forms.{Plain, unmarked, form_named, listed_tree, unary_tree, get_tree, has_tree, like_tree, type_test_tree, call_tree, set_tree, record_tree, placed, in_turn, of_one, id_tree, long_tree, var_tree}
use Rattle.json_expressions.specs.Parts.{attr_names_of, pattern_of, tested_type_of, called_name_of, loc_of}
use Rattle.json_values.specs.Lists.{with_first, with_field}
use Rattle.json_expressions.specs.declared.forms.Form.{Form}
use Rattle.json_expressions.specs.declared.forms.Form.TheVariants as form

-- what the value of an object's one member may be read as: an expression, a list of them, a list that begins
-- with one, a list that has them behind its first item, and named ones
pub record Operands : Type 0 where
  pub one : Option Plain
  pub all : Option (List Plain)
  pub first : Option Plain
  pub behind : Option (List Plain)
  pub fields : Option (List (List ℕ × Plain))

-- first the names behind it, then the expression
abbrev pub named_tree : Option (List (List ℕ)) →
    (List (List ℕ) → Plain → Option Plain) → Option Plain → Option Plain
named_tree names f first = option_and_then (λ ns. option_and_then (f ns) first) names

-- first the part that is no expression, then the operands
abbrev pub with_part : {A B : Type 0} → (A → B → Plain) → Option A → Option B → Option Plain
with_part f part operands = option_and_then (λ a. option_map (f a) operands) part

-- the expression of a form
abbrev pub formed_tree : Form → Data → Operands → Option Plain
formed_tree form.Id d o = id_tree d
formed_tree form.Var d o = var_tree d
formed_tree (form.Unary op) d o = option_map (unary_tree op) o.one
formed_tree (form.List f) d o = option_and_then (listed_tree f) o.all
formed_tree form.Get d o = named_tree (attr_names_of d) (in_turn get_tree) o.first
formed_tree form.Has d o = named_tree (attr_names_of d) (of_one has_tree) o.first
formed_tree form.Like d o = with_part like_tree (pattern_of d) o.first
formed_tree form.Is d o = with_part type_test_tree (tested_type_of d) o.first
formed_tree form.Call d o = with_part call_tree (called_name_of d) o.behind
formed_tree form.Record d o = option_map record_tree o.fields

unfoldable pub named_form_tree : List ℕ → Data → Operands → Option Plain
named_form_tree key d o = option_and_then (λ f. formed_tree f d o) (form_named key)

abbrev pub is_place : List ℕ → List ℕ → Bool
is_place k l = bytes_eq k (codes "at") && bytes_eq l (codes "of")

-- an expression behind its place, which goes before a place further inside
unfoldable pub placed_tree : List ℕ → Data → List ℕ → Option Plain → Option Plain
placed_tree k place l inner =
    if is_place k l then option_and_then (λ p. option_map (placed p) inner) (loc_of place) else None

-- The expression that a JSON value says, of any depth.
abbrev mutual
  pub expr_of : Data → Option Plain
  expr_of null = None
  expr_of (boolean b) = Some (lit (literal.Bool b) unmarked)
  expr_of (number n) = long_tree n
  expr_of (json.string t) = Some (lit (literal.String t) unmarked)
  expr_of (array ds) = option_map set_tree (exprs_of ds)
  expr_of (object ms) = expr_of_members ms

  pub exprs_of : Items → Option (List Plain)
  exprs_of no_items = Some []
  exprs_of (item d ds) = with_first (expr_of d) (exprs_of ds)

  pub first_expr_of : Items → Option Plain
  first_expr_of no_items = None
  first_expr_of (item d ds) = expr_of d

  pub exprs_behind_first : Items → Option (List Plain)
  exprs_behind_first no_items = None
  exprs_behind_first (item d ds) = exprs_of ds

  pub named_exprs_of : Members → Option (List (List ℕ × Plain))
  named_exprs_of no_members = Some []
  named_exprs_of (member k d ms) = with_field k (expr_of d) (named_exprs_of ms)

  pub operands_all : Data → Option (List Plain)
  operands_all null = None
  operands_all (boolean b) = None
  operands_all (number n) = None
  operands_all (json.string t) = None
  operands_all (array ds) = exprs_of ds
  operands_all (object ms) = None

  pub operands_first : Data → Option Plain
  operands_first null = None
  operands_first (boolean b) = None
  operands_first (number n) = None
  operands_first (json.string t) = None
  operands_first (array ds) = first_expr_of ds
  operands_first (object ms) = None

  pub operands_behind : Data → Option (List Plain)
  operands_behind null = None
  operands_behind (boolean b) = None
  operands_behind (number n) = None
  operands_behind (json.string t) = None
  operands_behind (array ds) = exprs_behind_first ds
  operands_behind (object ms) = None

  pub operands_fields : Data → Option (List (List ℕ × Plain))
  operands_fields null = None
  operands_fields (boolean b) = None
  operands_fields (number n) = None
  operands_fields (json.string t) = None
  operands_fields (array ds) = None
  operands_fields (object ms) = named_exprs_of ms

  -- an object with one member, or with a place and the expression that stands there
  pub expr_of_members : Members → Option Plain
  expr_of_members no_members = None
  expr_of_members (member k d no_members) = named_form_tree k d (record {
    one = expr_of d;
    all = operands_all d;
    first = operands_first d;
    behind = operands_behind d;
    fields = operands_fields d;
  })
  expr_of_members (member k d (member l e no_members)) = placed_tree k d l (expr_of e)
  expr_of_members (member k d (member l e (member m f ms))) = None

-- what the value of an object's one member is read as
abbrev pub operands_of : Data → Operands
operands_of d = record {
  one = expr_of d;
  all = operands_all d;
  first = operands_first d;
  behind = operands_behind d;
  fields = operands_fields d;
}
