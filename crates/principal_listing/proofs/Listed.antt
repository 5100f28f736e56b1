-- What is listed of a store, from its first entity on.
use Rattle.std.proofs.Common.{◌≡◌, ◌≢◌, ◌≤◌, ◌+◌, ◌&&◌, ℕ, suc, nat_lt, Bool, true, false, List, [], ◌∷◌, ◌++◌, Option, Some, None, refl, sym, ap, ◌∙◌, arith, append_assoc, inr, length-append}
use Rattle.std.specs.Prelude.{take, length, map, filter}
use Rattle.std.proofs.lemmas.List.{append-nil, take_at, take_all}
use Rattle.policy_values.specs.declared.entity_uid.EntityUID.{EntityUID}
use Rattle.entity_store.specs.Store.{StoredEntity, Store}
use Rattle.reads_spec.specs.Among.{IsIn}
use Rattle.principal_listing.specs.Pages.{comes_after, after, IsPage}
use Rattle.principal_listing.specs.declared.page.Page.{Page}

module _ (p : EntityUID → Bool) where
  -- one id more stands among those that pass and come after x, or does not
  skipped : (x : Option EntityUID) (u : EntityUID) (us : List EntityUID) → (comes_after x u && p u) ≡ false → after x (filter p (u ∷ us)) ≡ after x (filter p us)
  skipped None u us h = rw h refl
  skipped (Some x) u us h = by (comes_after (Some x) u) (p u) refl refl h
    where
      by : (b a : Bool) → comes_after (Some x) u ≡ b → p u ≡ a → (b && a) ≡ false → after (Some x) (filter p (u ∷ us)) ≡ after (Some x) (filter p us)
      by b false e k h = rw k refl
      by false true e k h = rw k (rw e refl)
      by true true e k h = absurd (cc)

  taken : (x : Option EntityUID) (u : EntityUID) (us : List EntityUID) → (comes_after x u && p u) ≡ true → after x (filter p (u ∷ us)) ≡ u ∷ after x (filter p us)
  taken None u us h = rw h refl
  taken (Some x) u us h = by (comes_after (Some x) u) (p u) refl refl h
    where
      by : (b a : Bool) → comes_after (Some x) u ≡ b → p u ≡ a → (b && a) ≡ true → after (Some x) (filter p (u ∷ us)) ≡ u ∷ after (Some x) (filter p us)
      by true true e k h = rw k (rw e refl)
      by true false e k h = absurd (cc)
      by false a e k h = absurd (cc)

  module _ (x : Option EntityUID) (whole : Store) (n : ℕ) where
    -- those of some entities that pass and come after x
    abbrev pub left : Store → List EntityUID
    left s = after x (filter p (map (λ e. e.uid) s))

    -- the ids so far, and what is still to be looked at
    pub record IsWalk (ids : List EntityUID) (rest : Store) : Type 0 where
      pub listed : left whole ≡ ids ++ left rest
      pub few : length ids ≤ n
      pub among : (e : StoredEntity) → IsIn e rest → IsIn e whole

    pub walk_start : IsWalk [] whole
    walk_start = record { listed = refl; few = omega arith; among = λ e i. i }

    module _ (ids : List EntityUID) (e : StoredEntity) (rest : Store) (w : IsWalk ids (e ∷ rest)) where
      pub walk_skipped : (comes_after x e.uid && p e.uid) ≡ false → IsWalk ids rest
      walk_skipped h = record {
        listed = w.listed ∙ ap (λ us. ids ++ us) (skipped x e.uid (map (λ e. e.uid) rest) h);
        few = w.few;
        among = λ f i. w.among f (inr i);
      }

      split : (comes_after x e.uid && p e.uid) ≡ true → left whole ≡ ids ++ e.uid ∷ left rest
      split h = w.listed ∙ ap (λ us. ids ++ us) (taken x e.uid (map (λ e. e.uid) rest) h)

      pub walk_taken : (comes_after x e.uid && p e.uid) ≡ true → length ids ≢ n → IsWalk (ids ++ e.uid ∷ []) rest
      walk_taken h room = record {
        listed = split h ∙ sym (append_assoc ids (e.uid ∷ []) (left rest));
        few = rw (length-append ids (e.uid ∷ [])) (omega (arith, w.few, room));
        among = λ f i. w.among f (inr i);
      }

      -- the page is full where one more is found
      pub full_page : (comes_after x e.uid && p e.uid) ≡ true → length ids ≡ n → (page : Page) → page.ids.items ≡ ids → page.more ≡ true → IsPage n (filter p (map (λ e. e.uid) whole)) x page
      full_page h full page same more = record {
        ids = same ∙ sym (ap (take n) (split h) ∙ take_at ids (e.uid ∷ left rest) n full);
        more = more ∙ sym (ap (λ us. nat_lt n (length us)) (split h) ∙ ap (nat_lt n) (length-append ids (e.uid ∷ left rest)) ∙ beyond (length ids) (length (left rest)) full);
      }
        where
          beyond : (k m : ℕ) → k ≡ n → nat_lt n (k + suc m) ≡ true
          beyond k m h = search (arith, h)

    nothing_after : after x [] ≡ []
    nothing_after = by x
      where
        by : (y : Option EntityUID) → after y [] ≡ []
        by None = refl
        by (Some y) = refl

    -- and else it is the last
    pub last_page : (ids : List EntityUID) → IsWalk ids [] → (page : Page) → page.ids.items ≡ ids → page.more ≡ false → IsPage n (filter p (map (λ e. e.uid) whole)) x page
    last_page ids w page same more = record {
      ids = same ∙ sym (ap (take n) all ∙ take_all n ids w.few);
      more = more ∙ sym (ap (λ us. nat_lt n (length us)) all ∙ within (length ids) w.few);
    }
      where
        all : left whole ≡ ids
        all = w.listed ∙ ap (λ us. ids ++ us) nothing_after ∙ append-nil ids

        within : (k : ℕ) → k ≤ n → nat_lt n k ≡ false
        within k h = search (arith, h)
