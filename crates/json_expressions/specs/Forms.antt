-- What the objects say that stand for expressions, once their parts are read.
use Rattle.std.specs.Prelude.{ℕ, List, [], ◌∷◌, fold, Option, Some, None, option_map, option_and_then, codes}
use Rattle.policy_expressions.specs.Tree.{Tree, Mark, lit, var, ite, conj, disj, unary, binary, attr, has, like, is_type, call, set, rec, with_mark, trees_of, named_of}
use Rattle.policy_expressions.specs.Tables.{beside}
use Rattle.policy_expressions.specs.declared.kinds.BinaryOp.{BinaryOp}
use Rattle.policy_expressions.specs.declared.kinds.BinaryOp.TheVariants as operator
use Rattle.policy_expressions.specs.declared.kinds.Literal.TheVariants as literal
use Rattle.policy_expressions.specs.declared.kinds.Loc.{Loc}
use Rattle.policy_expressions.specs.declared.kinds.PatternElem.{PatternElem}
use Rattle.policy_expressions.specs.declared.kinds.UnaryOp.{UnaryOp}
use Rattle.policy_expressions.specs.declared.kinds.UnaryOp.TheVariants.{Not, Neg, IsEmpty}
use Rattle.policy_expressions.specs.declared.kinds.Var.{Var}
use Rattle.policy_expressions.specs.declared.kinds.Var.TheVariants as variable
use Rattle.serde_json.specs.Data.{Num, Data}
use Rattle.serde_json.specs.Find.{as_i64, as_str}
use Rattle.json_values.specs.Names.{uid_of}
use Rattle.json_expressions.specs.declared.forms.Form.{Form}
use Rattle.json_expressions.specs.declared.forms.Form.TheVariants as form
use Rattle.json_expressions.specs.declared.forms.Junction.{Junction}
use Rattle.json_expressions.specs.declared.forms.Junction.TheVariants.{All, Any}
use Rattle.json_expressions.specs.declared.forms.ListForm.{ListForm}
use Rattle.json_expressions.specs.declared.forms.ListForm.TheVariants as listed

-- an expression of a document has no notes
abbrev pub Plain : Type 0
Plain = Tree (Mark (Unit {0}))

abbrev pub unmarked : Mark (Unit {0})
unmarked = record { note = tt; loc = None }

-- ---- names of forms

abbrev pub or_else : {A : Type 0} → Option A → Option A → Option A
or_else (Some x) o = Some x
or_else None o = o

abbrev pub unary_named : List ℕ → Option UnaryOp
unary_named key = beside ((codes "not", Not) ∷ (codes "neg", Neg) ∷ (codes "isEmpty", IsEmpty) ∷ []) key

-- operators that are spelled by signs and words of the language
abbrev pub sign_named : List ℕ → Option BinaryOp
sign_named key = beside (
    (codes "==", operator.Eq)
    ∷ (codes "<", operator.Less)
    ∷ (codes "<=", operator.LessEq)
    ∷ (codes "+", operator.Add)
    ∷ (codes "-", operator.Sub)
    ∷ (codes "*", operator.Mul)
    ∷ (codes "in", operator.In)
    ∷ []) key

-- those that are spelled as calls
abbrev pub call_named : List ℕ → Option BinaryOp
call_named key = beside (
    (codes "contains", operator.Contains)
    ∷ (codes "containsAll", operator.ContainsAll)
    ∷ (codes "containsAny", operator.ContainsAny)
    ∷ (codes "getTag", operator.GetTag)
    ∷ (codes "hasTag", operator.HasTag)
    ∷ []) key

abbrev pub binary_named : List ℕ → Option BinaryOp
binary_named key = or_else (sign_named key) (call_named key)

-- what is made of a list of operands
abbrev pub list_form_named : List ℕ → Option ListForm
list_form_named key = or_else
    (beside
    ((codes "all", listed.Fold All) ∷ (codes "any", listed.Fold Any) ∷ (codes "if", listed.If) ∷ []) key)
    (option_map listed.Binary (binary_named key))

abbrev pub other_form_named : List ℕ → Option Form
other_form_named key = or_else
    (beside (
    (codes "id", form.Id)
    ∷ (codes "var", form.Var)
    ∷ (codes "get", form.Get)
    ∷ (codes "has", form.Has)
    ∷ (codes "like", form.Like)
    ∷ (codes "is", form.Is)
    ∷ (codes "record", form.Record)
    ∷ (codes "call", form.Call)
    ∷ []) key)
    (option_map form.Unary (unary_named key))

-- the form that the name of an object's one member says
abbrev pub form_named : List ℕ → Option Form
form_named key = or_else (option_map form.List (list_form_named key)) (other_form_named key)

abbrev pub var_named : List ℕ → Option Var
var_named text = beside (
    (codes "principal", variable.Principal)
    ∷ (codes "action", variable.Action)
    ∷ (codes "resource", variable.Resource)
    ∷ (codes "context", variable.Context)
    ∷ []) text

-- ---- the expressions that forms make of their operands

module _ {A : Type 0} where
  -- one or more, folded from the left
  abbrev pub folded : (A → A → A) → List A → Option A
  folded f [] = None
  folded f (x ∷ xs) = Some (fold f x xs)

  -- tests with their branches in turn, and last what stands where no test holds
  abbrev pub else_of : (A → A → A → A) → List A → Option A
  else_of f [] = None
  else_of f (x ∷ []) = Some x
  else_of f (x ∷ y ∷ zs) = option_map (f x y) (else_of f zs)

  -- the same with a test at least
  abbrev pub chained : (A → A → A → A) → List A → Option A
  chained f [] = None
  chained f (x ∷ []) = None
  chained f (x ∷ y ∷ zs) = else_of f (x ∷ y ∷ zs)

  -- of two
  abbrev pub paired : (A → A → A) → List A → Option A
  paired f [] = None
  paired f (x ∷ []) = None
  paired f (x ∷ y ∷ []) = Some (f x y)
  paired f (x ∷ y ∷ z ∷ zs) = None

  -- of one name or more, in turn
  abbrev pub in_turn : (A → List ℕ → A) → List (List ℕ) → A → Option A
  in_turn f [] x = None
  in_turn f (name ∷ names) x = Some (fold f x (name ∷ names))

  -- of one name
  abbrev pub of_one : (A → List ℕ → A) → List (List ℕ) → A → Option A
  of_one f [] x = None
  of_one f (name ∷ []) x = Some (f x name)
  of_one f (name ∷ other ∷ names) x = None

abbrev pub if_tree : Plain → Plain → Plain → Plain
if_tree x y z = ite x y z unmarked

abbrev pub unary_tree : UnaryOp → Plain → Plain
unary_tree op x = unary op x unmarked

-- two expressions joined
abbrev pub join_tree : Junction → Plain → Plain → Plain
join_tree All x y = conj x y unmarked
join_tree Any x y = disj x y unmarked

abbrev pub binary_tree : BinaryOp → Plain → Plain → Plain
binary_tree op x y = binary op x y unmarked

abbrev pub listed_tree : ListForm → List Plain → Option Plain
listed_tree (listed.Fold j) xs = folded (join_tree j) xs
listed_tree listed.If xs = chained if_tree xs
listed_tree (listed.Binary op) xs = paired (binary_tree op) xs

abbrev pub get_tree : Plain → List ℕ → Plain
get_tree x name = attr x name unmarked

abbrev pub has_tree : Plain → List ℕ → Plain
has_tree x name = has x name unmarked

abbrev pub like_tree : List PatternElem → Plain → Plain
like_tree p x = like x p unmarked

abbrev pub type_test_tree : List ℕ → Plain → Plain
type_test_tree t x = is_type x t unmarked

abbrev pub set_tree : List Plain → Plain
set_tree xs = set (trees_of xs) unmarked

abbrev pub call_tree : List ℕ → List Plain → Plain
call_tree f xs = call f (trees_of xs) unmarked

abbrev pub record_tree : List (List ℕ × Plain) → Plain
record_tree es = rec (named_of es) unmarked

-- with this place in the source
abbrev pub placed : Loc → Plain → Plain
placed l x = with_mark x (record { note = tt; loc = Some l })

-- ---- expressions without operands

abbrev pub long_tree : Num → Option Plain
long_tree n = option_map (λ z. lit (literal.Long z) unmarked) (as_i64 n)

abbrev pub id_tree : Data → Option Plain
id_tree d = option_map (λ uid. lit (literal.EntityUID uid) unmarked) (uid_of d)

abbrev pub var_tree : Data → Option Plain
var_tree d = option_map (λ v. var v unmarked) (option_and_then var_named (as_str d))
