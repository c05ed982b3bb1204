-- Two states that differ in secret values alone: each tag is the same, and each value whose tag is open.
use Rattle.std.specs.Prelude.{◌≡◌, ℕ, Bool, true, List, [], ◌∷◌}
use Rattle.engine_trait.specs.Machine.{CoreState, Machine}
use Rattle.tag_memory.specs.Hart.{HartState}
use Rattle.tag_memory.specs.Ram.{RamState}

module _ {T : Type 0} (is_open : T → Bool) where
  -- as many values as tags, and the same ones where the tag is open
  abbrev pub AlikeValues : List T → List ℕ → List ℕ → Type 0
  AlikeValues [] [] [] = Unit {0}
  AlikeValues (tag ∷ tags) (x ∷ xs) (y ∷ ys) = (is_open tag ≡ true → y ≡ x) × AlikeValues tags xs ys
  AlikeValues _ _ _ = ⊥

  pub record AlikeHarts (a b : HartState T) : Type 0 where
    pub tags : b.tags ≡ a.tags
    pub pc : b.pc ≡ a.pc
    pub pc_tag : b.pc_tag ≡ a.pc_tag
    pub plain : b.plain ≡ a.plain
    pub values : AlikeValues a.tags a.values b.values

  pub record AlikeRams (a b : RamState T) : Type 0 where
    pub tags : b.tags ≡ a.tags
    pub plain : b.plain ≡ a.plain
    pub words : AlikeValues a.tags a.words b.words

  abbrev pub AllAlike : List (HartState T) → List (HartState T) → Type 0
  AllAlike [] [] = Unit {0}
  AllAlike (a ∷ firsts) (b ∷ seconds) = AlikeHarts a b × AllAlike firsts seconds
  AllAlike _ _ = ⊥

  pub record AlikeCores (a b : CoreState T) : Type 0 where
    pub harts : AllAlike a.harts b.harts
    pub stops : b.stops ≡ a.stops
    pub ram : AlikeRams a.ram b.ram

  -- of a policy whose values may differ so
  pub record AlikeMachines {S : Type 0} (like : S → S → Type 0) (s t : Machine S T) : Type 0 where
    pub policy : like s.policy t.policy
    pub core : AlikeCores s.core t.core
