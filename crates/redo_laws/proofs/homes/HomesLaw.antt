-- Slots are at home in a lawful list.
use Rattle.std.proofs.Common.{sym, ◌∙◌, subst, inl, inr, true≢false}
use Rattle.redo_model.specs.Model.{IsRowBlock}
use Rattle.redo_laws.specs.Homes.{SlotsAreAtHome}
use Rattle.redo_laws.proofs.space.Places.{segments, in_contains}
use Rattle.redo_laws.proofs.homes.Homes.{released_vacant}
use Rattle.redo_laws.proofs.spread.SpreadLaw.{present_block}
use Rattle.redo_laws.proofs.spread.Whole.{whole}

pub slots_are_at_home : SlotsAreAtHome
slots_are_at_home sh R b k h =
    let w = whole sh R h in
    record {
      at_home = λ e. elim (w.homes b) [
        | inl l ↦ subst (λ o. IsRowBlock sh R o b) (sym ((l.rows k).0 e).0) (present_block sh R l.obj b (segments sh R h) l.here)
        | inr d ↦ absurd (true≢false (sym (d.vacant k).empty ∙ e))
      ];
      vacant = λ index x v c f. (released_vacant sh R b k w.links f (record { index = index; extent = x; vacant = v; here = in_contains _ b c.0 c.1 c.2 })).empty;
    }
