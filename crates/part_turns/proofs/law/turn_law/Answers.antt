use Rattle.part_turns.proofs.MachineLemmas.{seen_sound, words_stay}
use Rattle.part_turns.proofs.TurnLemmas.{turn_shown}
use Rattle.part_turns.proofs.law.turn_law.Goals as goal

pub returns-clause-turn : goal.returns-clause-turn
returns-clause-turn g c l s feed h part on is valid =
    (turn_shown g.P.Policy.model g.Q.Policy.model l g.P.Policy.holds g.met.P.Policy.lawful part s on feed h).turns is valid

pub returns-clause-on : goal.returns-clause-on
returns-clause-on g c l s feed h part on =
    (turn_shown g.P.Policy.model g.Q.Policy.model l g.P.Policy.holds g.met.P.Policy.lawful part s on feed h).stays_on

pub returns-clause-sound : goal.returns-clause-sound
returns-clause-sound g c l s part on is = seen_sound g.P.Policy.model g.Q.Policy.model l part s on is

pub returns-clause-words : goal.returns-clause-words
returns-clause-words g c l s feed h is valid = words_stay g.P.Policy.model l g.P.Policy.holds g.met.P.Policy.lawful s is valid feed h
