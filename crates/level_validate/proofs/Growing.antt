-- Ids that are added one after another.
use Rattle.std.proofs.Common.{◌≡◌, Bool, true, false, ◌||◌, cond, List, [], ◌∷◌, ◌++◌, refl, sym, ap, ◌∙◌, subst}
use Rattle.std.specs.Ordering.{is_eq}
use Rattle.std.specs.declared.cmp.Ordering.{Ordering}
use Rattle.std.specs.declared.cmp.Ordering.TheVariants.{Less, Equal, Greater}
use Rattle.std.proofs.lemmas.Cmp.{eq_by_cmp_equiv}
use Rattle.std.proofs.lemmas.List.Folds.{list_any-append}
use Rattle.policy_values.specs.declared.entity_uid.EntityUID.{EntityUID}
use Rattle.policy_values.specs.Uid.{uid_cmp, uid_cmp_total, uid_eq, exact_uid}
use Rattle.level_spec.specs.Cut.{is_among}
use Rattle.level_spec.specs.Hops.{Within}
use Rattle.level_validate.specs.Fresh.{AreFresh}
use Rattle.plain_lemmas.proofs.Booleans.{or_false, or_of_cond}
use Rattle.policy_values.specs.Ties.{equal_of}

-- some of the ids are added to those that were reached before, and some are left
pub record AreAdded (before ids left reached fresh : List EntityUID) : Type 0 where
  pub all : (u : EntityUID) → (is_among reached u || is_among left u) ≡ (is_among before u || is_among ids u)
  pub fresh_reached : Within fresh reached
  pub newest : (u : EntityUID) → is_among reached u ≡ true → is_among fresh u ≡ false → is_among before u ≡ true

pub none_added : (before ids : List EntityUID) → AreAdded before ids ids before []
none_added before ids = record { all = λ u. refl; fresh_reached = λ u h. absurd (cc); newest = λ u h i. h }

pub all_added : (before ids reached fresh : List EntityUID) → AreAdded before ids [] reached fresh → AreFresh ids before reached fresh
all_added before ids reached fresh h = record { all = λ u. sym (or_false (is_among reached u)) ∙ h.all u; fresh_reached = h.fresh_reached; newest = h.newest }

old_all : (e r l : Bool) → (e ≡ true → r ≡ true) → (r || l) ≡ (r || (e || l))
old_all true true l f = refl
old_all true false l f = absurd (let h = f refl in cc)
old_all false r l f = refl

new_reached : (e f r : Bool) → (f ≡ true → r ≡ true) → (f || (e || false)) ≡ true → cond e true r ≡ true
new_reached true f r g h = refl
new_reached false true r g h = g refl
new_reached false false r g h = absurd (cc)

new_newest : (e f r b : Bool) → (r ≡ true → f ≡ false → b ≡ true) → cond e true r ≡ true → (f || (e || false)) ≡ false → b ≡ true
new_newest true true r b g h i = absurd (cc)
new_newest true false r b g h i = absurd (cc)
new_newest false true r b g h i = absurd (cc)
new_newest false false r b g h i = g h refl

module _ (before ids left reached fresh : List EntityUID) (k : EntityUID) (h : AreAdded before ids (k ∷ left) reached fresh) where
  -- one that was not reached
  pub new_added : (reached2 fresh2 : List EntityUID) → ((u : EntityUID) → is_among reached2 u ≡ cond (is_eq (uid_cmp k u)) true (is_among reached u)) → fresh2 ≡ fresh ++ k ∷ [] → AreAdded before ids left reached2 fresh2
  new_added reached2 fresh2 updates pushed = rw pushed record {
    all = λ u. ap (λ r. r || is_among left u) (now u) ∙ or_of_cond (uid_eq u k) (is_among reached u) (is_among left u) ∙ h.all u;
    fresh_reached = λ u i. now u ∙ new_reached (uid_eq u k) (is_among fresh u) (is_among reached u) (h.fresh_reached u) (sym (end u) ∙ i);
    newest = λ u i j. new_newest (uid_eq u k) (is_among fresh u) (is_among reached u) (is_among before u) (h.newest u) (sym (now u) ∙ i) (sym (end u) ∙ j);
  }
    where
      now : (u : EntityUID) → is_among reached2 u ≡ cond (uid_eq u k) true (is_among reached u)
      now u = updates u ∙ ap (λ e. cond e true (is_among reached u)) ((eq_by_cmp_equiv uid_cmp_total).symm k u)

      end : (u : EntityUID) → is_among (fresh ++ k ∷ []) u ≡ (is_among fresh u || (uid_eq u k || false))
      end u = list_any-append (uid_eq u) fresh (k ∷ [])

  -- one that was
  pub old_added : (reached2 : List EntityUID) → is_among reached k ≡ true → reached2 ≡ reached → AreAdded before ids left reached2 fresh
  old_added reached2 there same = rw same record {
    all = λ u. old_all (uid_eq u k) (is_among reached u) (is_among left u) (λ e. is_there u e) ∙ h.all u;
    fresh_reached = h.fresh_reached;
    newest = h.newest;
  }
    where
      is_there : (u : EntityUID) → uid_eq u k ≡ true → is_among reached u ≡ true
      is_there u e = subst (λ x. is_among reached x ≡ true) (sym (exact_uid u k (equal_of (uid_cmp u k) e))) there
