-- What a start and an entry that are made now keep, and what they leave.
use Rattle.std.proofs.Common.{◌≡◌, ℕ, List, length, None, refl, sym, ap, subst, le_refl, ne_eqb, eq-eqb}
use Rattle.seg_words.proofs.Lemmas.{cond-true, cond-false}
use Rattle.redo_model.specs.Records.{Record}
use Rattle.redo_model.specs.Model.{prefix}
use Rattle.redo_laws.proofs.lists.Prefixes.{prefix_all}
use Rattle.session_laws.specs.Sessions.{own_of}
use Rattle.script_text.specs.declared.statement.Statement.{Statement}
use Rattle.history_model.specs.declared.history.HistoryItem.TheVariants as item
use Rattle.history_model.specs.History.{statement_of, Task}
use Rattle.history_model.specs.Spans.{Span, span_of}
use Rattle.history_model.specs.Means.{Means, PassesOver}
use Rattle.history_laws.specs.Working.{now_of}
use Rattle.history_laws.specs.Telling.{start_now, entry_now, StartsKeep, EntriesKeep, SpansBegin, OwnIsTold, OthersAreTold}
use Rattle.history_laws.proofs.Owned.{reached_within, ways_are_known}
use Rattle.history_laws.proofs.LegalLaw.{made_longer, starts_are_legal, entries_are_legal}

whole : (R : List Record) → prefix R (length R) ≡ R
whole R = prefix_all R (length R) (le_refl (length R))

pub starts_keep : StartsKeep
starts_keep sh scripts R0 R T w m h =
    starts_are_legal sh scripts R0 R T (start_now R w) refl (record {
      session = m.session;
      idle = m.idle;
      place = m.place;
      closing = λ e n. m.closing e (subst (λ (z : List Record). own_of z w ≡ None) (whole R) n);
      order = reached_within sh scripts (length R0) R T (made_longer sh scripts T R0 R h.made) h.told;
      within = le_refl (length R);
    }) h

-- the span as it is now is the one that ends now
now_is : (scripts : List (List Statement)) (R : List Record) (w : ℕ) (task : Task) → now_of scripts R w task ≡ span_of scripts R w task (length R)
now_is scripts R w task = ap (λ (E : List Record). span scripts R w task E) (sym (whole R))
  where
    span : List (List Statement) → List Record → ℕ → Task → List Record → Span
    span scripts R w task E = record { session = w; scripts = scripts; past = task.past; begun = prefix R task.begins; ended = E }

pub entries_keep : EntriesKeep
entries_keep sh scripts R0 R T w task moment outcome k m h =
    let way = ways_are_known sh scripts (length R0) R T w task h.told m.now in
    entries_are_legal sh scripts R0 R T (entry_now scripts R w task moment outcome) k refl (record {
      task = task;
      started = m.now;
      begins = refl;
      ordinal = refl;
      order = reached_within sh scripts (length R0) R T (made_longer sh scripts T R0 R h.made) h.told;
      grows = way.within;
      within = le_refl (length R);
      means = subst (λ (x : Span). Means sh x (statement_of scripts w task.place) outcome k) (now_is scripts R w task) m.means;
      passes = subst (λ (x : Span). PassesOver sh x (statement_of scripts w task.place) outcome k) (now_is scripts R w task) m.passes;
    }) h

pub spans_begin : SpansBegin
spans_begin scripts R T w = whole R

pub own_is_told : OwnIsTold
own_is_told T w = record {
  started = λ s e. cond-true _ _ _ (eq-eqb s.session w e);
  ended = λ x k e. cond-true _ _ _ (eq-eqb x.session w e);
  counted = λ x k e. cond-true _ _ _ (eq-eqb x.session w e);
}

pub others_are_told : OthersAreTold
others_are_told T (item.Started s) w ne = record { way = cond-false _ _ _ (ne_eqb s.session w ne); count = refl }
others_are_told T (item.Told e k) w ne = record { way = cond-false _ _ _ (ne_eqb e.session w ne); count = cond-false _ _ _ (ne_eqb e.session w ne) }
