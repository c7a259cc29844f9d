-- Checkpoints between the groups of a log.
use Rattle.std.proofs.Common.{◌≡◌, ℕ, ◌≤◌, List, [], ◌∷◌, ◌++◌, length, refl, sym, ap, subst, ◌∙◌, arith, append_assoc, append-nil, length-append}
use Rattle.redo_record.specs.declared.record.Record.{Record}
use Rattle.redo_record.specs.Spelling.{spelling}
use Rattle.redo_model.specs.Lists.{prefix, same, more, Extends}
use Rattle.redo_model.specs.Ordinals.{commit_count}
use Rattle.redo_laws.proofs.lists.Prefixes.{prefix_first, extends_length}
use Rattle.redo_log.specs.Kept.{spelled, AreSpelled, Holds, with_group}
use Rattle.redo_log.proofs.Adding.{with_some, with_none}
use Rattle.checkpoint_block.specs.declared.point.Checkpoint.{Checkpoint}
use Rattle.checkpoint_block.specs.Types.{first_point}
use Rattle.checkpoint_laws.specs.Points.{point_at, IsPointOf, IsBoundary}

-- groups and more groups
holds_both : (groups next : List (List ℕ)) (R0 Q R : List Record) → Holds groups R0 Q → Holds next Q R → Holds (groups ++ next) R0 R
holds_both [] next R0 Q R is rest = subst (λ (X : List Record). Holds next X R) is rest
holds_both (g ∷ groups) next R0 Q R h rest = (h.0, h.1, h.2, holds_both groups next (h.0 ++ R0) Q R h.3 rest)

-- the groups lead on from the list that they began with
behind_all : (new Q R : List Record) → Extends (new ++ Q) R → Extends Q R
behind_all [] Q R ext = ext
behind_all (r ∷ new) Q R ext = behind_all new Q R (one_less r (new ++ Q) R ext)
  where
    one_less : (r : Record) (Q R : List Record) → Extends (r ∷ Q) R → Extends Q R
    one_less r Q _ same = more r same
    one_less r Q (x ∷ R) (more _ ext) = more x (one_less r Q R ext)

lead_on : (groups : List (List ℕ)) (R0 R : List Record) → Holds groups R0 R → Extends R0 R
lead_on [] R0 R is = subst (λ (X : List Record). Extends R0 X) (sym is) same
lead_on (g ∷ groups) R0 R h = behind_all h.0 R0 R (lead_on groups (h.0 ++ R0) R h.3)

pub none_is_a_point : IsPointOf [] [] first_point
none_is_a_point = record { before = []; behind = []; first = []; split = refl; older = refl; newer = refl; count = refl; end_gate = refl; commits = refl }

pub all_is_a_point : (groups : List (List ℕ)) (Q : List Record) → Holds groups [] Q → IsPointOf groups Q (point_at groups Q)
all_is_a_point groups Q holds = record { before = groups; behind = []; first = Q; split = sym (append-nil groups); older = holds; newer = refl; count = refl; end_gate = refl; commits = refl }

pub points_stay : (groups next : List (List ℕ)) (Q R : List Record) (point : Checkpoint) → IsPointOf groups Q point → Holds next Q R → IsPointOf (groups ++ next) R point
points_stay groups next Q R point is rest = record {
  before = is.before;
  behind = is.behind ++ next;
  first = is.first;
  split = ap (λ (l : List (List ℕ)). l ++ next) is.split ∙ append_assoc is.before is.behind next;
  older = is.older;
  newer = holds_both is.behind next is.first Q R is.newer rest;
  count = is.count;
  end_gate = is.end_gate;
  commits = is.commits;
}

-- the bytes of some records are some
spelled_some : (r : Record) (R : List Record) → 1 ≤ length (spelled (r ∷ R))
spelled_some r R = omega (arith, length-append (spelled R) (spelling r))

pub points_stay_with_a_group : (groups : List (List ℕ)) (Q newer : List Record) (waiting : List ℕ) (point : Checkpoint) → IsPointOf groups Q point → waiting ≡ spelled newer → AreSpelled newer → IsPointOf (with_group groups waiting) (newer ++ Q) point
points_stay_with_a_group groups Q [] waiting point is bytes spells =
    subst (λ (gs : List (List ℕ)). IsPointOf gs Q point) (sym (with_none groups waiting bytes)) is
points_stay_with_a_group groups Q (r ∷ newer) waiting point is bytes spells =
    let some : 1 ≤ length waiting = omega (arith, ap (λ (l : List ℕ). length l) bytes, spelled_some r newer) in
    subst (λ (gs : List (List ℕ)). IsPointOf gs (r ∷ newer ++ Q) point) (sym (with_some groups waiting some))
    (points_stay groups (waiting ∷ []) Q (r ∷ newer ++ Q) point is (r ∷ newer, bytes, spells, refl))

pub points_are_boundaries : (groups : List (List ℕ)) (Q : List Record) (point : Checkpoint) → IsPointOf groups Q point → IsBoundary groups Q point
points_are_boundaries groups Q point is =
    let ext : Extends is.first Q = lead_on is.behind is.first Q is.newer in
    let front : is.first ≡ prefix Q point.length = sym (ap (prefix Q) is.count ∙ prefix_first is.first Q ext) in
    record {
      holds = subst (λ (gs : List (List ℕ)). Holds gs [] Q) (sym is.split) (holds_both is.before is.behind [] is.first Q is.older is.newer);
      within = omega (arith, is.count, extends_length is.first Q ext);
      commits = is.commits ∙ ap commit_count front;
      before = is.before;
      behind = is.behind;
      split = is.split;
      older = subst (λ (X : List Record). Holds is.before [] X) front is.older;
      newer = subst (λ (X : List Record). Holds is.behind X Q) front is.newer;
      end_gate = is.end_gate;
    }
