-- Reading no more than so many bytes.
use Rattle.std.proofs.Common.{◌≡◌, ℕ, ◌+◌, ◌<◌, ◌≤◌, min, List, ◌++◌, length, take, Option, Some, None, IfSome, refl, ap, sym, ◌∙◌, arith, append_assoc, length-append}
use Rattle.std.specs.Option.{option_map}
use Rattle.std.specs.Io.KnownBytes.{prepend_known}
use Rattle.std.proofs.lemmas.List.{length-take, take_all}
use Rattle.host_io.specs.Prefixes.{LosesPrefix}

-- What was read is all there was, if more would have been let through.
pub whole_prefix : (left : Option (List ℕ)) (read : List ℕ) (room : ℕ) → length read < room →
    IfSome (option_map (take room) left) (λ prefix. read ≡ prefix) → IfSome left (λ all. read ≡ all)
whole_prefix None read room short prefix = tt
whole_prefix (Some all) read room short prefix =
    let count : length read ≡ min room (length all) = ap length prefix ∙ length-take room all in
    prefix ∙ take_all room all (omega arith)

-- Two pieces put in front, one after the other, are put in front as one
pub prepend_known-append : (prefix piece : List ℕ) (known : Option (List ℕ)) →
    prepend_known (prefix ++ piece) known ≡ prepend_known prefix (prepend_known piece known)
prepend_known-append prefix piece None = refl
prepend_known-append prefix piece (Some rest) = ap Some (append_assoc prefix piece rest)

-- After a prefix one piece more was moved out.
pub two_prefixes : (old now new : Option (List ℕ)) (prefix : List ℕ) (count : ℕ) (piece : List ℕ)
    (limit most : ℕ) → old ≡ prepend_known prefix now → now ≡ prepend_known (take count piece) new →
    length prefix ≤ limit → count ≤ most → LosesPrefix old new (limit + most)
two_prefixes old now new prefix count piece limit most first then short few = record {
  prefix = prefix ++ take count piece;
  moved =
      first ∙ ap (prepend_known prefix) then
      ∙ sym (prepend_known-append prefix (take count piece) new);
  within =
      omega (arith, length-append prefix (take count piece), length-take count piece);
}
