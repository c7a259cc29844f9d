-- Lists of makers: facts of each one, and those that are left when a record is taken back.
use Rattle.std.proofs.Common.{true, false, cond, not, List, [], ◌∷◌}
use Rattle.seg_words.specs.Types.{UndoAddr}
use Rattle.redo_model.specs.Model.{is_addr, Made, without}
use Rattle.redo_laws.specs.Chain.{EachMade}

pub each_map : (P Q : Made → Type 0) (ms : List Made) → ((m : Made) → P m → Q m) → EachMade P ms → EachMade Q ms
each_map P Q [] f h = tt
each_map P Q (m ∷ ms) f h = (f m h.0, each_map P Q ms f h.1)

pub each_without : (P : Made → Type 0) (a : UndoAddr) (ms : List Made) → EachMade P ms → EachMade P (without a ms)
each_without P a [] h = tt
each_without P a (m ∷ ms) h = elim (not (is_addr m.undo a)) as (λ v. EachMade P (cond v (m ∷ without a ms) (without a ms))) [ true ↦ (h.0, each_without P a ms h.1) | false ↦ each_without P a ms h.1 ]
