-- Compartments on a run: each store lies in its compartment's permitted words, and a hart comes into another compartment by
-- right alone.
use Rattle.std.specs.Prelude.{◌≡◌, ◌⊎◌, ℕ, ◌/◌, ◌==◌, Bool, true, ◌||◌, List, ◌∷◌, ◌++◌, Some, slice_index}
use Rattle.policy_trait.specs.Sets.{has}
use Rattle.policy_trait.specs.declared.birth.Birth.{Birth}
use Rattle.policy_trait.specs.declared.services.Words.{Words}
use Rattle.engine_trait.specs.Events.{Event, Touch, is_retirement}
use Rattle.part_turns.specs.Moments.{First, Moment, Service, Successive, is_jal, is_jalr, service_of}
use Rattle.comp_runs.specs.OwnerBook.{Owned, OwnerBook, covers, owner_book}

-- the compartment owns the word, or the word lets it write
abbrev pub is_permitted : ℕ → Owned → Bool
is_permitted compartment owned = (owned.owner == compartment) || has owned.write compartment

-- the owner of the word that a turn obeys
abbrev pub owner_at : {T : Type 0} → OwnerBook → Event T → ℕ
owner_at book event = (book (event.pc / 4)).owner

-- the word of a jump: JAL or JALR
abbrev pub is_jump : ℕ → Bool
is_jump word = is_jal word || is_jalr word

-- a word that may be executed after one of compartment `from`: the same compartment's, or one that lets it in, by a jump
abbrev pub MayFollow : ℕ → Bool → Owned → Type 0
MayFollow from jumped owned = (owned.owner ≡ from) ⊎ ((jumped ≡ true) × (has owned.into from ≡ true))

-- what a retired turn writes, in the book as it stands before it: words that are its compartment's, or let it write
pub record WritesByRight {T : Type 0} (book : OwnerBook) (event : Event T) : Type 0 where
  pub stores : (touch : Touch) → event.access ≡ Some touch → touch.stores ≡ true → is_permitted (owner_at book event) (book (touch.address / 4)) ≡ true
  pub zeroes : (x : Service T) (range : Words) (n : ℕ) → service_of event ≡ Some x → x.zero ≡ true → x.range ≡ Some range → covers range n ≡ true
      → is_permitted (owner_at book event) (book n) ≡ true

-- what an image says of the word at an address, and where each hart starts
module _ {T : Type 0} (birth : ℕ → Birth) (entries : List ℕ) where
  pub record CompSafe (events : List (Event T)) : Type 0 where
    pub writes : (x : Moment events) → is_retirement x.event ≡ true → WritesByRight (owner_book birth x.before) x.event
    -- between two successive retired turns of a hart, other harts may have changed who owns what
    pub follows : (x : Successive events)
        → MayFollow (owner_at (owner_book birth x.before) x.first) (is_jump x.first.word) (owner_book birth (x.before ++ x.first ∷ x.between) (x.second.pc / 4))
    pub enters : (x : First events)
        → owner_at (owner_book birth x.moment.before) x.moment.event ≡ (birth (slice_index entries x.moment.event.hart)).owner
