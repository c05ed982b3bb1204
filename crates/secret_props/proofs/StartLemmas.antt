-- Two starts of an image that differ in the secret bytes alone are alike.
use Rattle.std.proofs.Common.{◌≡◌, ℕ, ◌/◌, Bool, List, [], ◌∷◌, length, map, replicate, refl, sym, ◌∙◌}
use Rattle.std.specs.List.{range_with_len}
use Rattle.std.proofs.lemmas.List.{length-map, length-replicate}
use Rattle.std.proofs.lemmas.List.FromFn.{length-range_with_len}
use Rattle.image_format.specs.Conditions.{IsImage}
use Rattle.image_format.specs.Picture.{Picture}
use Rattle.policy_choice.specs.All.{choice_state}
use Rattle.policy_choice.specs.declared.basis.Basis.{Basis}
use Rattle.tag_loader.specs.Start.{memory_of, start_hart, start_harts, start_machine, start_ram, start_tag, start_tags}
use Rattle.tag_loader.proofs.MemoryLemmas.{length-memory_of}
use Rattle.secret_runs.specs.Alike.{AlikeHarts, AlikeMachines, AllAlike}
use Rattle.secret_runs.specs.Pairs.{SameBeside, shows}
use Rattle.secret_runs.specs.Same.{AlikeStandings}
use Rattle.secret_runs.proofs.ValueLemmas.{alike_self}
use Rattle.pump_loader.specs.Wholes.{HiddenTag, HiddenState, hidden, unanswered}
use Rattle.secret_props.specs.Hidden.{asked_start, hidden_start, kept_start}

module _ (basis : Basis) (g : Picture) (is : IsImage g) (one other : List ℕ) where
  -- the policies at the start
  abbrev first : HiddenState
  first = (choice_state basis g, unanswered one)

  abbrev second : HiddenState
  second = (choice_state basis g, unanswered other)

  hart_alike : (entry : ℕ) → AlikeHarts shows (start_hart hidden first g entry) (start_hart hidden second g entry)
  hart_alike entry = record {
    tags = refl;
    pc = refl;
    pc_tag = refl;
    plain = refl;
    values = alike_self shows (replicate 31 (hidden.plain first)) (replicate 31 0)
        (length-replicate 31 (hidden.plain first) ∙ sym (length-replicate {A = ℕ} 31 0));
  }

  harts_alike : (entries : List ℕ) → AllAlike shows (map (start_hart hidden first g) entries) (map (start_hart hidden second g) entries)
  harts_alike [] = tt
  harts_alike (entry ∷ entries) = (hart_alike entry, harts_alike entries)

  as_many : length (map (start_tag hidden first g) (range_with_len 0 (g.ram / 4))) ≡ length (memory_of g)
  as_many =
      length-map (range_with_len 0 (g.ram / 4)) (start_tag hidden first g) ∙ length-range_with_len 0 (g.ram / 4) ∙ sym (length-memory_of g is)

  pub starts_alike : AlikeMachines shows SameBeside (hidden_start basis one g) (hidden_start basis other g)
  unfolding start_machine start_harts start_ram start_tags
  starts_alike = record {
    policy = (refl, tt);
    core = record {
      harts = harts_alike g.entries;
      stops = refl;
      ram = record { tags = refl; plain = refl; words = alike_self shows _ (memory_of g) as_many };
    };
  }

  pub asked_alike : AlikeStandings shows SameBeside (asked_start basis one g) (asked_start basis other g)
  asked_alike = record { machine = starts_alike; account = refl; forgets = refl }

  pub kept_alike : (eq : HiddenTag → HiddenTag → Bool) (sets ways tags : ℕ)
      → AlikeStandings shows SameBeside (kept_start eq basis one sets ways tags g) (kept_start eq basis other sets ways tags g)
  unfolding start_harts start_tags
  kept_alike eq sets ways tags = record { machine = starts_alike; account = refl; forgets = refl }
