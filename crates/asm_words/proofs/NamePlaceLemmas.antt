-- What the tree of names holds, read as a finite map.
use Rattle.std.proofs.Common.{◌≡◌, ℕ, List, [], ◌∷◌, map, Some, cond, refl, sym, ap, ◌∙◌}
use Rattle.std.specs.Borrow.{Bor}
use Rattle.std.specs.BTreeMap.{BTreeMap, UpdatesBy, get_by}
use Rattle.std.specs.Cmp.{eq_by_cmp_equiv}
use Rattle.std.specs.Cmp.Lexicographic.{slice_cmp, nat_list_cmp_total}
use Rattle.std.specs.FinMap.{get, insert, find, get-from_entries, get-insert, same_map, slice_cmp-IsAntisymmetric, nat_cmp-IsAntisymmetric}
use Rattle.std.specs.Map.{lookup}
use Rattle.std.specs.Ordering.{nat_cmp, is_eq}
use Rattle.asm_words.specs.NamePlaces.{places_in}

-- a search along the entries of the map is one along those of the tree
found : (name : List ℕ) (es : List (Bor (List ℕ) × ℕ))
    → find (slice_cmp nat_cmp) name (map (λ e. (e.0.now, e.1)) es) ≡ lookup (λ k. is_eq (slice_cmp nat_cmp name k.now)) es
found name [] = refl
found name (e ∷ es) = ap (cond (is_eq (slice_cmp nat_cmp name e.0.now)) (Some e.1)) (found name es)

-- a look-up in the tree is one in the map
pub get_is : (tree : BTreeMap (Bor (List ℕ)) ℕ) (name : List ℕ)
    → get (places_in tree) name ≡ get_by (λ k. slice_cmp nat_cmp name k.now) tree
get_is tree name = get-from_entries nat_list_cmp_total (map (λ e. (e.0.now, e.1)) tree.entries) name ∙ found name tree.entries

-- and so is an insertion
pub insert_is : (old new : BTreeMap (Bor (List ℕ)) ℕ) (name : List ℕ) (place : ℕ)
    → UpdatesBy (λ x y. slice_cmp nat_cmp x.now y.now) (λ k. slice_cmp nat_cmp name k.now) old new (Some place)
    → places_in new ≡ insert (places_in old) name place
insert_is old new name place updates =
    same_map nat_list_cmp_total (slice_cmp-IsAntisymmetric nat_cmp-IsAntisymmetric) (places_in new) (insert (places_in old) name place) (λ q.
    get_is new q ∙
    updates.0 (record { ref_ptr = (0, 0); now = q }) ∙
    ap (λ b. cond b (Some place) (get_by (λ k. slice_cmp nat_cmp q k.now) old)) ((eq_by_cmp_equiv nat_list_cmp_total).symm name q) ∙
    sym (get-insert nat_list_cmp_total (places_in old) name place q ∙ ap (cond (is_eq (slice_cmp nat_cmp q name)) (Some place)) (get_is old q)))
