-- The way of an update, as the code tells it.
use Rattle.std.proofs.Common.{◌≡◌, ℕ, true, false, cond, List, Option, sym, ◌∙◌}
use Rattle.std.specs.Prelude.{Result, Ok, Err, IfOk}
use Rattle.seg_words.proofs.Lemmas.{cond-true, cond-false}
use Rattle.seg_words.specs.Types.{Rowid}
use Rattle.redo_model.specs.Records.{Record}
use Rattle.change_laws.specs.Types.{Apart, InPlace, ToHead, ToOther, fits_at, path_of}
use Rattle.row_change.specs.declared.fitting.Way.{Way}
use Rattle.row_change.specs.Fitting.{told_way}

pub way_in_place : (R : List Record) (own : Option ℕ) (head body : Rowid) (len : ℕ) → fits_at R own body len ≡ true → InPlace ≡ path_of R own (Apart head body) len
way_in_place R own head body len e = sym (cond-true _ _ _ e)

pub way_told : {E : Type 0} (R : List Record) (own : Option ℕ) (head body : Rowid) (len : ℕ) (r : Result Way E) → fits_at R own body len ≡ false → IfOk r (λ w. told_way w ≡ cond (fits_at R own head len) ToHead ToOther) → IfOk r (λ w. told_way w ≡ path_of R own (Apart head body) len)
way_told R own head body len (Ok w) e h = h ∙ sym (cond-false _ _ _ e)
way_told R own head body len (Err f) e h = tt
