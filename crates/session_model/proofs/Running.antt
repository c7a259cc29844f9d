-- What the sessions of a run are makes it a run: each statement under way is on its way.
use Rattle.std.proofs.Common.{◌≡◌, ℕ, false, length, Option, Some, None, refl, sym, ◌∙◌, ap, subst}
use Rattle.seg_words.specs.Types.{Shape}
use Rattle.session_laws.specs.Sessions.{own_of, own_backed, backed_of}
use Rattle.script_text.specs.declared.statement.Statement.{Statement}
use Rattle.script_text.specs.declared.statement.Statement.TheVariants as asked
use Rattle.history_model.specs.History.{Task, statement_of, under_way}
use Rattle.history_model.specs.Spans.{Span}
use Rattle.history_model.specs.Running.{IsOnItsWay}
use Rattle.history_laws.specs.Working.{now_of}
use Rattle.history_laws.proofs.Owned.{same_some, ways_are_known}
use Rattle.history_laws.proofs.Ways.{works_go_on}
use Rattle.session_model.specs.Repairs.{RepairWork, RepairFits}
use Rattle.session_model.specs.Doings.{Doing, Waiting, Working, Repairing, DoingFits, takes_back}
use Rattle.session_model.specs.Sessions.{HasPassed}
use Rattle.session_model.specs.Laws.{WorldsRun}
use Rattle.session_model.proofs.Keeping.{way_under, way_none}

repair_on : (sh : Shape) (x : Span) (st : Option Statement) (k : RepairWork) → HasPassed sh x st → RepairFits sh x st k → IsOnItsWay sh x st
repair_on sh x (Some (asked.Repair name)) k p h = record { more = refl; first = p; so_far = h.idle }
repair_on sh x st k p h = absurd h

doing_on : (sh : Shape) (x : Span) (st : Option Statement) (d : Doing) → HasPassed sh x st → DoingFits sh x st d → IsOnItsWay sh x st
doing_on sh x st Waiting p h = absurd h
doing_on sh x None (Working k) p h = works_go_on sh x None k tt h
doing_on sh x (Some st) (Working k) p h = works_go_on sh x (Some st) k p h
doing_on sh x st (Repairing k) p h = repair_on sh x st k p h

pub worlds_run : WorldsRun
worlds_run sh scripts R0 R T sessions labels moment h in_time = record {
  legal = h.legal;
  in_time = in_time;
  under = λ w task e.
      let known = ways_are_known sh scripts (length R0) R T w task h.legal.told e in
      let u = way_under sh scripts R T w (sessions w) (sessions w).doing task (h.fit w known.session).way e in
      let on = doing_on sh (now_of scripts R w u.task) (statement_of scripts w (sessions w).told) (sessions w).doing u.passed u.fits in
      subst (λ (z : Task). IsOnItsWay sh (now_of scripts R w z) (statement_of scripts w z.place)) (same_some u.task task (sym u.now ∙ e)) (subst (λ (n : ℕ). IsOnItsWay sh (now_of scripts R w u.task) (statement_of scripts w n)) (sym u.place) on);
  whole = λ w e. whole w e (own_of R w) refl;
  known = h.known;
}
  where
    whole : (w : ℕ) → under_way T w ≡ None → (o : Option ℕ) → own_of R w ≡ o → own_backed R w ≡ false
    whole w e None o = ap (backed_of R) o
    whole w e (Some t) o =
        let f = h.fit w (h.known w t o) in
        f.whole (ap takes_back (way_none sh scripts R T w (sessions w) (sessions w).doing f.way e))
