-- The policies that can be chosen, and the text that names them.
use Rattle.std.specs.Prelude.{ℕ, ◌==◌, nat_le, Bool, false, not, ◌&&◌, ◌||◌, List, codes, Option, Some, None, if◌then◌else◌}
use Rattle.std.specs.List.{count_by, list_all, slice_split}
use Rattle.std.specs.Str.{bytes_eq}
use Rattle.policy_choice.specs.declared.choice.Choice.{Choice}

abbrev pub no_policy : Choice
no_policy = record { seal = false; comp = false; flow = false; heap = false; secret = false }

-- no policy is chosen
abbrev pub is_none : Choice → Bool
is_none choice = not choice.seal && not choice.comp && not choice.flow && not choice.heap && not choice.secret

-- the parts of a text between its commas
abbrev pub names_in : List ℕ → List (List ℕ)
names_in text = slice_split (λ byte. byte == 44) text

-- the names of policies
abbrev pub is_name : List ℕ → Bool
is_name name = bytes_eq name (codes "seal") || bytes_eq name (codes "comp") || bytes_eq name (codes "flow") || bytes_eq name (codes "heap")
    || bytes_eq name (codes "secret")

abbrev pub times_named : List (List ℕ) → List ℕ → ℕ
times_named names name = count_by (λ part. bytes_eq part name) names

-- names of policies, none twice, in any order
abbrev pub is_list : List (List ℕ) → Bool
is_list names =
    list_all is_name names && nat_le (times_named names (codes "seal")) 1 && nat_le (times_named names (codes "comp")) 1
    && nat_le (times_named names (codes "flow")) 1 && nat_le (times_named names (codes "heap")) 1
    && nat_le (times_named names (codes "secret")) 1

abbrev pub is_named : List (List ℕ) → List ℕ → Bool
is_named names name = times_named names name == 1

abbrev pub choice_in : List (List ℕ) → Option Choice
choice_in names = if is_list names then Some (record {
  seal = is_named names (codes "seal");
  comp = is_named names (codes "comp");
  flow = is_named names (codes "flow");
  heap = is_named names (codes "heap");
  secret = is_named names (codes "secret");
}) else None

-- the policies that a text names: none, or a list
abbrev pub choice_of : List ℕ → Option Choice
choice_of text = if bytes_eq text (codes "none") then Some no_policy else choice_in (names_in text)
