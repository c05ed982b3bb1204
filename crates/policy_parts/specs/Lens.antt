-- One policy within a whole one: how its tags and its value are read off the whole's, and where it is on.
use Rattle.std.specs.Prelude.{Bool, Option}
use Rattle.std.specs.Option.{is_some, unwrap_or}
use Rattle.policy_product.specs.Maybe.{tag_or}
use Rattle.policy_product.specs.declared.maybe.Maybe.{Maybe}

pub record Lens (T S U V : Type 0) : Type 0 where
  pub tag : T → U
  pub value : S → V
  pub is_on : S → Bool

-- a policy within the same policy that may be off; a missing tag is the plain one, and an absent value this one
abbrev pub on_lens : {U V : Type 0} → U → V → Lens (Option U) (Maybe V) U V
on_lens plain absent = record {
  tag = λ tag. tag_or plain tag;
  value = λ policy. unwrap_or policy.part absent;
  is_on = λ policy. is_some policy.part;
}

-- a policy within the left one of a pair, and within the right one

abbrev pub left_lens : {T S U V A B : Type 0} → Lens T S U V → Lens (T × A) (S × B) U V
left_lens l = record { tag = λ tags. l.tag tags.0; value = λ values. l.value values.0; is_on = λ values. l.is_on values.0 }

abbrev pub right_lens : {T S U V A B : Type 0} → Lens T S U V → Lens (A × T) (B × S) U V
right_lens l = record { tag = λ tags. l.tag tags.1; value = λ values. l.value values.1; is_on = λ values. l.is_on values.1 }
