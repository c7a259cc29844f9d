-- What a step is, from what was found.
use Rattle.std.proofs.Common.{◌≡◌, ℕ, ◌≤◌, Bool, true, false, not, List, length, Option, Some, None, Ok, sym, ◌∙◌, ap, subst, arith}
use Rattle.std.specs.Prelude.{Result, Err, IfOk}
use Rattle.seg_words.proofs.Lemmas.{not-false}
use Rattle.seg_words.specs.Types.{Shape, Rowid, writer_has_ended}
use Rattle.disk_model.specs.Crash.{Meaning}
use Rattle.redo_model.specs.Records.{Record}
use Rattle.redo_model.specs.Model.{AreAllowed, at_place, data_blocks, ended_in, first_taker, image, is_active}
use Rattle.version_laws.specs.Types.{ended_by}
use Rattle.store_core.specs.Store.{Held}
use Rattle.shrink_laws.specs.declared.skip.Skip.{Skip}
use Rattle.shrink_laws.specs.Stops.{IsAt, IsFull, LeadsDown, row_image}
use Rattle.shrink_laws.specs.Cursor.{Finds}
use Rattle.shrink_move.specs.declared.ground.Ground.{Ground}
use Rattle.shrink_move.specs.declared.come.Come.{Come}
use Rattle.shrink_move.specs.declared.outline.Outline.{Outline}
use Rattle.shrink_move.specs.declared.next.Next.TheVariants.{Bottom, Skips, NoFit, ToBody, ToBlock}
use Rattle.shrink_move.specs.Asked.{body_of, outline_of}
use Rattle.shrink_move.specs.Known.{Knows}
use Rattle.shrink_move.specs.Nexts.{NextIs}
use Rattle.shrink_move.specs.Nexting.{BodyBelow, BodyStands, CanGo, HasCome, IsActiveBy}
use Rattle.shrink_move.specs.Walks.{ComesDown, IsBelow}
use Rattle.shrink_move.proofs.Placing.{at_within}
use Rattle.shrink_move.proofs.Opening.{HasBody, body_full, body_is, has_body, own_row}

-- what follows of an answer
pub answer_on : {A E : Type 0} (r : Result A E) (P Q : A → Type 0) → ((x : A) → P x → Q x) → IfOk r P → IfOk r Q
answer_on (Ok x) P Q h p = h x p
answer_on (Err f) P Q h p = tt

-- ---- the image that holds the row

body_read : (R : List Record) (b k : ℕ) (own : Outline) (body : Option Rowid) → own ≡ outline_of (image R b k) → body ≡ body_of own.kind own.link → body ≡ body_of (image R b k).kind (image R b k).link
body_read R b k own body e h = h ∙ ap (λ (x : Outline). body_of x.kind x.link) e

pub row_none : (R : List Record) (b k : ℕ) (own : Outline) (body : Option Rowid) → body ≡ None → own ≡ outline_of (image R b k) → body ≡ body_of own.kind own.link → own ≡ outline_of (row_image R b k)
row_none R b k own body none e h = e ∙ ap outline_of (sym (own_row R b k (sym (body_read R b k own body e h) ∙ none)))

pub row_some : (R : List Record) (b k : ℕ) (own : Outline) (body : Option Rowid) (p : Rowid) → body ≡ Some p → own ≡ outline_of (image R b k) → body ≡ body_of own.kind own.link → HasBody R b k p
row_some R b k own body p is e h = has_body R b k p (sym (body_read R b k own body e h) ∙ is)

pub row_there : (sh : Shape) (R : List Record) (b k : ℕ) (own : Outline) (body : Option Rowid) (p : Rowid) → AreAllowed sh R → body ≡ Some p → own ≡ outline_of (image R b k) → body ≡ body_of own.kind own.link → IsFull R p.dba p.slot
row_there sh R b k own body p h is e w = body_full sh R b k p h (row_some R b k own body p is e w)

pub row_of_body : (R : List Record) (b k : ℕ) (own : Outline) (body : Option Rowid) (p : Rowid) (x : Outline) → body ≡ Some p → own ≡ outline_of (image R b k) → body ≡ body_of own.kind own.link → x ≡ outline_of (image R p.dba p.slot) → x ≡ outline_of (row_image R b k)
row_of_body R b k own body p x is e h r = r ∙ ap outline_of (sym (row_some R b k own body p is e h).row)

-- ---- the body

no_rowid : {P : Type 0} (p : Rowid) → ◌≡◌ {A = Option Rowid} None (Some p) → P
no_rowid p e = absurd cc

rowid_inside : (p q : Rowid) → ◌≡◌ {A = Option Rowid} (Some p) (Some q) → p ≡ q
rowid_inside p q e = cc

pub body_none : (sh : Shape) (R : List Record) (o n : ℕ) (body : Option Rowid) → body ≡ None → BodyBelow sh R o n body None
body_none sh R o n body e p is = no_rowid p (sym e ∙ is)

pub body_yes : (sh : Shape) (R : List Record) (o n : ℕ) (body : Option Rowid) (p : Rowid) (y : Bool) → body ≡ Some p → y ≡ true → IsBelow sh R o n p.dba y → BodyBelow sh R o n body (Some p)
body_yes sh R o n body p y is e h = record { is = is; below = (let z : IsBelow sh R o n p.dba true = subst (IsBelow sh R o n p.dba) e h in z) }

pub body_no : (sh : Shape) (R : List Record) (o n : ℕ) (body : Option Rowid) (p : Rowid) (y : Bool) → body ≡ Some p → y ≡ false → IsBelow sh R o n p.dba y → BodyBelow sh R o n body None
body_no sh R o n body p y is e h q same i l at =
    let no : IsBelow sh R o n p.dba false = subst (IsBelow sh R o n p.dba) e h in
    no i l (subst (λ (x : Rowid). IsAt sh R o i x.dba) (sym (rowid_inside p q (sym is ∙ same))) at)

-- ---- the step

pub place_below : (sh : Shape) (R : List Record) (o : ℕ) (skips : List Skip) (cursor place d k : ℕ) → Finds sh R o skips cursor place d k → place ≤ length (data_blocks sh R o)
place_below sh R o skips cursor place d k f = let l = at_within (data_blocks sh R o) place d f.here in omega (arith, l)

taken_as : (sh : Shape) (R : List Record) (o place len n : ℕ) (r : Option ℕ) → r ≡ first_taker sh R o place len → len ≡ n → first_taker sh R o place n ≡ r
taken_as sh R o place len n r e l = ap (first_taker sh R o place) (sym l) ∙ sym e

pub goes_to_block : (sh : Shape) (R : List Record) (o : ℕ) (skips : List Skip) (cursor len target : ℕ) (x : Come) (r : Option ℕ) → CanGo sh R o skips cursor x len → (LeadsDown sh R o x.place x.at.dba x.at.slot → ⊥) → r ≡ first_taker sh R o x.place len → r ≡ Some target → NextIs sh R o skips cursor (ToBlock x target)
goes_to_block sh R o skips cursor len target x r c not e is = record { finds = c.finds; over = c.over; not_down = not; first = taken_as sh R o x.place len (length (row_image R x.at.dba x.at.slot).bytes) r e c.length_is ∙ is }

pub fits_nowhere : (sh : Shape) (R : List Record) (o : ℕ) (skips : List Skip) (cursor len : ℕ) (x : Come) (r : Option ℕ) → CanGo sh R o skips cursor x len → (LeadsDown sh R o x.place x.at.dba x.at.slot → ⊥) → r ≡ first_taker sh R o x.place len → r ≡ None → NextIs sh R o skips cursor (NoFit x)
fits_nowhere sh R o skips cursor len x r c not e is = record { finds = c.finds; over = c.over; not_down = not; none_takes = taken_as sh R o x.place len (length (row_image R x.at.dba x.at.slot).bytes) r e c.length_is ∙ is }

pub goes_to_body : (sh : Shape) (R : List Record) (o : ℕ) (skips : List Skip) (cursor len : ℕ) (x : Come) (body : Option Rowid) (r : Option Rowid) (p : Rowid) → CanGo sh R o skips cursor x len → body ≡ body_of (image R x.at.dba x.at.slot).kind (image R x.at.dba x.at.slot).link → r ≡ Some p → BodyBelow sh R o x.place body r → NextIs sh R o skips cursor (ToBody x p)
goes_to_body sh R o skips cursor len x body r p c e is h =
    let s : BodyStands sh R o x.place body p = subst (BodyBelow sh R o x.place body) is h in
    let b = has_body R x.at.dba x.at.slot p (sym e ∙ s.is) in
    record { finds = c.finds; over = c.over; head = b.head; link = b.link; below = s.below }

pub leads_nowhere : (sh : Shape) (R : List Record) (o n d k : ℕ) (body r : Option Rowid) → body ≡ body_of (image R d k).kind (image R d k).link → r ≡ None → BodyBelow sh R o n body r → LeadsDown sh R o n d k → ⊥
leads_nowhere sh R o n d k body r e is h l =
    let no : BodyBelow sh R o n body None = subst (BodyBelow sh R o n body) is h in
    no (at_place l.block l.slot) (e ∙ body_is R d k (at_place l.block l.slot) l.head l.link) l.lower l.below l.there

pub skips_row : {D : Type 0} (meaning : Meaning D) (s : Held D) (R : List Record) (o : ℕ) (g : Ground) (skips : List Skip) (cursor t : ℕ) (x : Come) (body : Option Rowid) (row : Outline) → Knows meaning R o s g → HasCome g.shape R o skips cursor x body row → IsActiveBy g.table row.writer t → NextIs g.shape R o skips cursor (Skips x t)
skips_row meaning s R o g skips cursor t x body row k c a = record {
  finds = c.finds;
  writer = ap (λ (y : Outline). y.writer) (sym c.row_is) ∙ a.writer;
  active = not-false (is_active R t) (ap (λ (f : ℕ → Bool). f t) (sym k.ended) ∙ a.active);
}

pub can_go : {D : Type 0} (meaning : Meaning D) (s : Held D) (R : List Record) (o : ℕ) (g : Ground) (skips : List Skip) (cursor : ℕ) (x : Come) (body : Option Rowid) (row : Outline) → Knows meaning R o s g → HasCome g.shape R o skips cursor x body row → writer_has_ended (ended_by g.table) row.writer ≡ true → CanGo g.shape R o skips cursor x row.len
can_go meaning s R o g skips cursor x body row k c over = record {
  finds = c.finds;
  over = ap (λ (y : Outline). writer_has_ended (ended_in R) y.writer) (sym c.row_is) ∙ ap (λ (f : ℕ → Bool). writer_has_ended f row.writer) (sym k.ended) ∙ over;
  length_is = ap (λ (y : Outline). y.len) c.row_is;
}

-- what has come, by its outlines
pub has_come : (sh : Shape) (R : List Record) (o : ℕ) (skips : List Skip) (cursor : ℕ) (x : Come) (own row : Outline) (body : Option Rowid) → Finds sh R o skips cursor x.place x.at.dba x.at.slot → own ≡ outline_of (image R x.at.dba x.at.slot) → body ≡ body_of own.kind own.link → row ≡ outline_of (row_image R x.at.dba x.at.slot) → HasCome sh R o skips cursor x body row
has_come sh R o skips cursor x own row body f e h r = record { finds = f; body_is = body_read R x.at.dba x.at.slot own body e h; row_is = r }

pub found_down : (sh : Shape) (R : List Record) (o : ℕ) (skips : List Skip) (cursor : ℕ) (r : Option Come) (x : Come) → r ≡ Some x → ComesDown sh R o skips cursor r → Finds sh R o skips cursor x.place x.at.dba x.at.slot
found_down sh R o skips cursor r x e h = (let z : ComesDown sh R o skips cursor (Some x) = subst (ComesDown sh R o skips cursor) e h in z)

pub at_bottom : (sh : Shape) (R : List Record) (o : ℕ) (skips : List Skip) (cursor : ℕ) (r : Option Come) → r ≡ None → ComesDown sh R o skips cursor r → NextIs sh R o skips cursor Bottom
at_bottom sh R o skips cursor r e h = (let z : ComesDown sh R o skips cursor None = subst (ComesDown sh R o skips cursor) e h in z)
