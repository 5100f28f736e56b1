-- The attributes that rows have for the children of a trie, asked one after another.
use Rattle.std.proofs.Common.{◌≡◌, ◌<◌, ℕ, Bool, true, false, ◌&&◌, ◌||◌, cond, List, [], ◌∷◌, length, Option, Some, None, is_some, refl, sym, ap, ◌∙◌, arith}
use Rattle.std.specs.Prelude.{slice_get}
use Rattle.std.specs.List.{list_any, AllByRecursion}
use Rattle.std.specs.Option.{option_or}
use Rattle.std.specs.Ordering.{is_eq}
use Rattle.std.proofs.lemmas.Map.Lookups.{exact_bytes}
use Rattle.plain_lemmas.proofs.Lists.{is_some_within}
use Rattle.policy_values.specs.Ties.{equal_of}
use Rattle.policy_values.specs.Uid.{text_cmp}
use Rattle.policy_values.specs.Value.{Val}
use Rattle.policy_expressions.specs.declared.kinds.Var.TheVariants.{Principal, Action, Resource, Context}
use Rattle.access_tries.specs.declared.edge.EntityRoot.TheVariants.{Literal, Var as Variable}
use Rattle.access_tries.specs.declared.edge.Edge.{Edge}
use Rattle.access_tries.specs.declared.edge.Edge.TheVariants.{Field, AnyTag, Root}
use Rattle.access_tries.specs.declared.table.Link.{Link}
use Rattle.access_tries.specs.EdgeLaws.{then_end}
use Rattle.access_tries.specs.Edges.{edge_eq}
use Rattle.access_tries.specs.Table.{Table, IsTable, links_at}
use Rattle.access_tries.specs.Views.{ViewData, with_child, children_in, children_of}
use Rattle.reads_spec.specs.Paths.{along}
use Rattle.entity_loader.specs.Asked.{asks}

-- whether one of the children has the name
abbrev pub among : List ℕ → List (List ℕ × ViewData) → Bool
among k cs = list_any (λ c. is_eq (text_cmp c.0 k)) cs

-- a link by the field is a child of its name
one_link : (k : List ℕ) (e : Edge) (w : ViewData) (cs : List (List ℕ × ViewData)) (there : Bool) → there ≡ true →
    ((edge_eq e (Field k) && there) || among k cs) ≡ among k (with_child e w cs)
one_link k (Field n) w cs there h =
    ap (λ b. (edge_eq (Field n) (Field k) && b) || among k cs) h ∙
    ap (λ o. (is_eq o && true) || among k cs) (then_end (text_cmp n k)) ∙
    ap (λ b. b || among k cs) (and_true (is_eq (text_cmp n k)))
  where
    and_true : (b : Bool) → (b && true) ≡ b
    and_true true = refl
    and_true false = refl
one_link k AnyTag w cs there h = refl
one_link k (Root (Literal u)) w cs there h = refl
one_link k (Root (Variable Principal)) w cs there h = refl
one_link k (Root (Variable Action)) w cs there h = refl
one_link k (Root (Variable Resource)) w cs there h = refl
one_link k (Root (Variable Context)) w cs there h = refl

links_asked : (ns : Table) (i : ℕ) (k : List ℕ) (ls : List Link) →
    AllByRecursion (λ l. (i < l.number) × (l.number < length ns)) ls →
    list_any (λ l. edge_eq l.edge (Field k) && is_some (slice_get ns l.number)) ls ≡ among k (children_in ns ls)
links_asked ns i k [] h = refl
links_asked ns i k (l ∷ ls) h =
    ap (λ b. (edge_eq l.edge (Field k) && is_some (slice_get ns l.number)) || b) (links_asked ns i k ls h.1) ∙
    one_link k l.edge (record { nodes = ns; number = l.number }) (children_in ns ls) (is_some (slice_get ns l.number)) (is_some_within ns l.number h.0.1)

-- a trie goes on with a field exactly where it has a child of its name
pub asks_children : (v : ViewData) → IsTable v.nodes → (k : List ℕ) → asks v (along k ∷ []) ≡ among k (children_of v)
asks_children v t k = links_asked v.nodes v.number k (links_at v.nodes v.number) (t.closed.each v.number (omega arith))

-- what is found so far, where `rest` is still to be asked for: it is of `a`, and with what is found for the rest it is all
pub record IsTaking (a : List ℕ → Option Val) (all rest : List (List ℕ × ViewData)) (f : List ℕ → Option Val) : Type 0 where
  pub within : (k : List ℕ) → option_or (a k) (f k) ≡ a k
  pub is : (k : List ℕ) → cond (among k rest) (a k) (f k) ≡ cond (among k all) (a k) None

or_none : (o : Option Val) → option_or o None ≡ o
or_none None = refl
or_none (Some v) = refl

or_itself : (o : Option Val) → option_or o o ≡ o
or_itself None = refl
or_itself (Some v) = refl

cond_itself : (b : Bool) (o : Option Val) → cond b o o ≡ o
cond_itself true o = refl
cond_itself false o = refl

module _ (a : List ℕ → Option Val) (all : List (List ℕ × ViewData)) where
  pub taking_start : (f : List ℕ → Option Val) → ((k : List ℕ) → f k ≡ None) → IsTaking a all all f
  taking_start f none = record {
    within = λ k. ap (λ o. option_or (a k) o) (none k) ∙ or_none (a k);
    is = λ k. ap (λ o. cond (among k all) (a k) o) (none k);
  }

  module _ (c : List ℕ × ViewData) (rest : List (List ℕ × ViewData)) (f g : List ℕ → Option Val) (t : IsTaking a all (c ∷ rest) f)
      (put : (k : List ℕ) → g k ≡ cond (is_eq (text_cmp c.0 k)) (option_or (a c.0) (f k)) (f k)) where
    -- the name that was asked for now
    at_name : (k : List ℕ) → is_eq (text_cmp c.0 k) ≡ true → g k ≡ a k
    at_name k e =
        let same : c.0 ≡ k = exact_bytes c.0 k (equal_of (text_cmp c.0 k) e) in
        put k ∙ ap (λ b. cond b (option_or (a c.0) (f k)) (f k)) e ∙ ap (λ n. option_or (a n) (f k)) same ∙ t.within k

    elsewhere : (k : List ℕ) → is_eq (text_cmp c.0 k) ≡ false → g k ≡ f k
    elsewhere k e = put k ∙ ap (λ b. cond b (option_or (a c.0) (f k)) (f k)) e

    pub taking_more : IsTaking a all rest g
    taking_more = record { within = λ k. within k (is_eq (text_cmp c.0 k)) refl; is = λ k. is k (is_eq (text_cmp c.0 k)) refl }
      where
        within : (k : List ℕ) (b : Bool) → is_eq (text_cmp c.0 k) ≡ b → option_or (a k) (g k) ≡ a k
        within k true e = ap (λ o. option_or (a k) o) (at_name k e) ∙ or_itself (a k)
        within k false e = ap (λ o. option_or (a k) o) (elsewhere k e) ∙ t.within k

        is : (k : List ℕ) (b : Bool) → is_eq (text_cmp c.0 k) ≡ b → cond (among k rest) (a k) (g k) ≡ cond (among k all) (a k) None
        is k true e =
            ap (λ o. cond (among k rest) (a k) o) (at_name k e) ∙ cond_itself (among k rest) (a k) ∙
            sym (ap (λ b. cond (b || among k rest) (a k) (f k)) e) ∙ t.is k
        is k false e =
            ap (λ o. cond (among k rest) (a k) o) (elsewhere k e) ∙
            sym (ap (λ b. cond (b || among k rest) (a k) (f k)) e) ∙ t.is k

-- an attribute that was found, put beside others
pub put_found : (b : Bool) (o p : Option Val) → o ≡ None → p ≡ cond b (option_or o p) p
put_found true o p h = rw h refl
put_found false o p h = refl
