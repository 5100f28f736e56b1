-- Following values one after another.
use Rattle.std.proofs.Common.{◌≡◌, ◌⊎◌, ◌+◌, Bool, true, false, ◌||◌, List, [], ◌∷◌, map, refl, sym, ap, ◌∙◌, inl, inr, arith}
use Rattle.std.specs.List.{list_any}
use Rattle.policy_values.specs.declared.entity_uid.EntityUID.{EntityUID}
use Rattle.policy_values.specs.Value.{Val}
use Rattle.access_tries.specs.declared.edge.Edge.{Edge}
use Rattle.access_tries.specs.Edges.{Address}
use Rattle.access_tries.specs.Paths.{edge_of}
use Rattle.access_tries.specs.Table.{Table}
use Rattle.access_tries.specs.Views.{ViewData, view_leads, LeadsTo, LeadsNowhere}
use Rattle.reads_spec.specs.Paths.{Step}
use Rattle.reads_spec.proofs.Lists.{IsIn}
use Rattle.entity_loading.specs.declared.place.Place.{Place}
use Rattle.entity_loading.specs.declared.follow.FollowError.{FollowError}
use Rattle.entity_loading.specs.declared.follow.FollowError.TheVariants as error
use Rattle.entity_loading.specs.Places.{IsPlaced, IsAtOrBelow, IsPlaceBelow}
use Rattle.entity_loading.specs.Needs.{Test, sees, needs, points, Adds}
use Rattle.entity_loading.specs.CannotGoOn.{tests_of, behind, RefusedBy}
use Rattle.entity_loading.proofs.PlacePointSteps.{points_none, any_point_none, no_mark}
use Rattle.plain_lemmas.proofs.Lists.{within_of_is_some}
use Rattle.plain_lemmas.proofs.Booleans.{or_assoc, or_false}

-- ---- what is asked

module _ (ns : Table) where
  pub adds_nothing : (more : Bool → EntityUID → Test) (ps : List Place) → ((b : Bool) (x : EntityUID) (a : Address) → more b x a ≡ false) → Adds ns more ps ps
  adds_nothing more ps none = record { each = λ b x a. sym (ap (λ c. needs b ns ps x a || c) (none b x a) ∙ or_false (needs b ns ps x a)) }

  pub adds_also : (m n : Bool → EntityUID → Test) (old mid new : List Place) → Adds ns m old mid → Adds ns n mid new → Adds ns (λ b x a. m b x a || n b x a) old new
  adds_also m n old mid new h k = record {
    each = λ b x a. k.each b x a ∙ ap (λ c. c || n b x a) (h.each b x a) ∙ or_assoc (needs b ns old x a) (m b x a) (n b x a);
  }

  pub adds_same : (m n : Bool → EntityUID → Test) (old new : List Place) → ((b : Bool) (x : EntityUID) (a : Address) → m b x a ≡ n b x a) → Adds ns m old new → Adds ns n old new
  adds_same m n old new e h = record { each = λ b x a. h.each b x a ∙ ap (λ c. needs b ns old x a || c) (e b x a) }

  -- what was to be asked is asked, but for what is left; all places that were added are such
  pub record IsFollowing (all left : Bool → EntityUID → Test) (P : Place → Type 0) (old new : List Place) : Type 0 where
    pub asked : (b : Bool) (x : EntityUID) (a : Address) → (needs b ns new x a || left b x a) ≡ (needs b ns old x a || all b x a)
    pub below : (q : Place) → IsIn q new → IsIn q old ⊎ P q

  pub following_start : (all : Bool → EntityUID → Test) (P : Place → Type 0) (ps : List Place) → IsFollowing all all P ps ps
  following_start all P ps = record { asked = λ b x a. refl; below = λ q h. inl h }

  pub following_same : (all left : Bool → EntityUID → Test) (P : Place → Type 0) (ps : List Place) → ((b : Bool) (x : EntityUID) (a : Address) → left b x a ≡ all b x a) → IsFollowing all left P ps ps
  following_same all left P ps same = record { asked = λ b x a. ap (λ c. needs b ns ps x a || c) (same b x a); below = λ q h. inl h }

  module _ (all left : Bool → EntityUID → Test) (P : Place → Type 0) (old mid : List Place) (t : IsFollowing all left P old mid) where
    pub following_more : (this rest : Bool → EntityUID → Test) (new : List Place) → ((b : Bool) (x : EntityUID) (a : Address) → left b x a ≡ (this b x a || rest b x a))
        → Adds ns this mid new → ((q : Place) → IsIn q new → IsIn q mid ⊎ P q) → IsFollowing all rest P old new
    following_more this rest new split one below = record {
      asked = λ b x a. ap (λ c. c || rest b x a) (one.each b x a) ∙ or_assoc (needs b ns mid x a) (this b x a) (rest b x a) ∙ ap (λ c. needs b ns mid x a || c) (sym (split b x a)) ∙ t.asked b x a;
      below = λ q h. elim (below q h) [
        | inl before ↦ t.below q before
        | inr p ↦ inr p
      ];
    }

    pub following_skip : (rest : Bool → EntityUID → Test) → ((b : Bool) (x : EntityUID) (a : Address) → left b x a ≡ rest b x a) → IsFollowing all rest P old mid
    following_skip rest same = record { asked = λ b x a. ap (λ c. needs b ns mid x a || c) (sym (same b x a)) ∙ t.asked b x a; below = t.below }

    pub following_done : ((b : Bool) (x : EntityUID) (a : Address) → left b x a ≡ false) → Adds ns all old mid
    following_done none = record { each = λ b x a. sym (ap (λ c. needs b ns mid x a || c) (none b x a) ∙ or_false (needs b ns mid x a)) ∙ t.asked b x a }

-- ---- behind an edge

module _ (e : Edge) (v w : ViewData) (l : LeadsTo e v w) where
  pub sees_behind : (b : Bool) (a : Address) → sees b v (e ∷ a) ≡ sees b w a
  sees_behind false a = l.paths a
  sees_behind true a = l.marks a

  pub tests_behind : tests_of w ≡ behind e (tests_of v)
  tests_behind = λ i. record { leads = λ a. sym (l.paths a) i; marks = λ a. sym (l.marks a) i }

  pub points_behind : (u : Val) (b : Bool) (x : EntityUID) (a : Address) → points u (sees b w) x a ≡ points u (λ c. sees b v (e ∷ c)) x a
  points_behind u b x a = ap (λ t. points u t x a) (λ i c. sym (sees_behind b c) i)

  pub any_behind : (vs : List Val) (b : Bool) (x : EntityUID) (a : Address) → list_any (λ u. points u (sees b w) x a) vs ≡ list_any (λ u. points u (λ c. sees b v (e ∷ c)) x a) vs
  any_behind vs b x a = ap (λ t. list_any (λ u. points u t x a) vs) (λ i c. sym (sees_behind b c) i)

module _ (e : Edge) (v : ViewData) (l : LeadsNowhere e v) where
  pub sees_nothing : (b : Bool) (a : Address) → sees b v (e ∷ a) ≡ false
  sees_nothing false a = l a
  sees_nothing true a = no_mark v.nodes v.number (e ∷ a) (l a)

  pub points_nothing : (u : Val) (b : Bool) (x : EntityUID) (a : Address) → points u (λ c. sees b v (e ∷ c)) x a ≡ false
  points_nothing u b x a = ap (λ t. points u t x a) (λ i c. sees_nothing b c i) ∙ points_none u x a

  pub any_nothing : (vs : List Val) (b : Bool) (x : EntityUID) (a : Address) → list_any (λ u. points u (λ c. sees b v (e ∷ c)) x a) vs ≡ false
  any_nothing vs b x a = ap (λ t. list_any (λ u. points u t x a) vs) (λ i c. sees_nothing b c i) ∙ any_point_none vs x a

-- ---- places

pub at_itself : (v : ViewData) (p : Place) → p.number ≡ v.number → view_leads v [] ≡ true → IsAtOrBelow v p
at_itself v p e h = rw e (record { late = omega arith; there = within_of_is_some v.nodes v.number h; allows = λ n m a. a })

pub at_or_below : (v : ViewData) (p : Place) → IsPlaceBelow v p → IsAtOrBelow v p
at_or_below v p b = record { late = omega (arith, b.later); there = b.there; allows = λ n m a ns h. omega (arith, b.allows n m a ns h) }

-- below what a step leads to
pub below_step : (n : Step) (v w : ViewData) (p : Place) → LeadsTo (edge_of n) v w → IsAtOrBelow w p → IsPlaceBelow v p
below_step n v w p l b = record {
  later = omega (arith, l.later, b.late);
  there = rw (sym l.table) b.there;
  allows = λ k m a. rw (sym l.table) (b.allows k (m + 1) (λ ns h. let longer = a (n ∷ ns) (l.paths (map edge_of ns) ∙ h) in omega (arith, longer)));
}

pub placed_below : (v : ViewData) (p : Place) (old new : List Place) → IsPlaced p old new → p.number ≡ v.number → view_leads v [] ≡ true → (q : Place) → IsIn q new → IsIn q old ⊎ IsAtOrBelow v q
placed_below v p old new t e h q k = elim (t.only q k) [
  | inl before ↦ inl before
  | inr same ↦ inr (rw same (at_itself v p e h))
]

pub or_then : {A B C D : Type 0} → (A → C ⊎ D) → (B → D) → A ⊎ B → C ⊎ D
or_then f g (inl a) = f a
or_then f g (inr b) = inr (g b)

pub or_weaker : {A B C : Type 0} → (B → C) → A ⊎ B → A ⊎ C
or_weaker f (inl a) = inl a
or_weaker f (inr b) = inr (f b)

-- ---- refusals

pub refused_weaker : (P Q : Val → Type 0) → ((u : Val) → P u → Q u) → (e : FollowError) → RefusedBy P e → RefusedBy Q e
refused_weaker P Q f (error.Incompatible u) h = f u h
refused_weaker P Q f error.OutOfMemory h = tt
