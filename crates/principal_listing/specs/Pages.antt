-- Pages of ascending ids.
use Rattle.std.specs.Prelude.{◌≡◌, ℕ, nat_lt, Bool, true, false, List, [], ◌∷◌, Option, Some, None, filter, take, length}
use Rattle.std.specs.Ordering.{is_lt}
use Rattle.policy_values.specs.declared.entity_uid.EntityUID.{EntityUID}
use Rattle.policy_values.specs.Uid.{uid_cmp}
use Rattle.principal_listing.specs.declared.page.Page.{Page}

-- whether an id comes after this one; each does without one
abbrev pub comes_after : Option EntityUID → EntityUID → Bool
comes_after None u = true
comes_after (Some x) u = is_lt (uid_cmp x u)

-- the ids that come after this one; all without one
abbrev pub after : Option EntityUID → List EntityUID → List EntityUID
after None us = us
after (Some x) us = filter (comes_after (Some x)) us

-- the first of those that come after, and whether one more follows
abbrev pub page_ids : ℕ → Option EntityUID → List EntityUID → List EntityUID
page_ids n x us = take n (after x us)

abbrev pub has_more : ℕ → Option EntityUID → List EntityUID → Bool
has_more n x us = nat_lt n (length (after x us))

abbrev pub last_of : List EntityUID → Option EntityUID
last_of [] = None
last_of (u ∷ []) = Some u
last_of (u ∷ v ∷ us) = last_of (v ∷ us)

-- a page of at most so many ids, of those that come after this one
pub record IsPage (n : ℕ) (us : List EntityUID) (x : Option EntityUID) (p : Page) : Type 0 where
  pub ids : p.ids.items ≡ page_ids n x us
  pub more : p.more ≡ has_more n x us

-- pages, each resumed after the last id of the one before, until none follows
abbrev pub AreResumed : ℕ → List EntityUID → Option EntityUID → List Page → Type 0
AreResumed n us x [] = ⊥
AreResumed n us x (p ∷ []) = IsPage n us x p × (p.more ≡ false)
AreResumed n us x (p ∷ r ∷ ps) =
    IsPage n us x p × (p.more ≡ true) × AreResumed n us (last_of p.ids.items) (r ∷ ps)
