-- How the rules of stores are written.
use Rattle.std.specs.Prelude.{ℕ, List, ◌++◌, codes}
use Rattle.policy_values.specs.Show.{uid_text}
use Rattle.conformance.specs.declared.store_rule.StoreRule.{StoreRule}
use Rattle.conformance.specs.declared.store_rule.StoreRule.TheVariants.{TypeNotDeclared, IdNotListed, AttributeNotDeclared, AttributeOfAnotherType, AttributeHoldsUnlistedId, RequiredAttributeMissing, TagsNotAllowed, TagOfAnotherType, TagHoldsUnlistedId, AncestorNotAllowed, AncestorNotListed, ActionNotDeclared, ActionHasAttributes, ActionHasTags, ActionAncestorsDiffer}

abbrev pub rule_text : StoreRule → List ℕ
rule_text TypeNotDeclared = codes "type is not declared"
rule_text IdNotListed = codes "id is not listed"
rule_text (AttributeNotDeclared key) = codes "attribute `" ++ key ++ codes "` is not declared"
rule_text (AttributeOfAnotherType key) = codes "attribute `" ++ key ++ codes "` is not of its type"
rule_text (AttributeHoldsUnlistedId key) = codes "attribute `" ++ key ++ codes "` holds an unlisted id"
rule_text (RequiredAttributeMissing key) = codes "required attribute `" ++ key ++ codes "` is missing"
rule_text TagsNotAllowed = codes "tags are not allowed"
rule_text (TagOfAnotherType key) = codes "tag `" ++ key ++ codes "` is not of its type"
rule_text (TagHoldsUnlistedId key) = codes "tag `" ++ key ++ codes "` holds an unlisted id"
rule_text (AncestorNotAllowed uid) =
    codes "ancestor `" ++ uid_text uid.entity_type uid.eid ++ codes "` is not allowed"
rule_text (AncestorNotListed uid) =
    codes "ancestor `" ++ uid_text uid.entity_type uid.eid ++ codes "` is not listed"
rule_text ActionNotDeclared = codes "action is not declared"
rule_text ActionHasAttributes = codes "action has attributes"
rule_text ActionHasTags = codes "action has tags"
rule_text ActionAncestorsDiffer = codes "action's ancestors differ from the schema's"
