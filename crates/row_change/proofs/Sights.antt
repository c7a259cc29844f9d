-- What slots and pages show of a row that is looked for.
use Rattle.std.proofs.Common.{◌≡◌, ℕ, ◌<◌, ◌≤◌, Bool, true, false, leb, List, length, slice_get, Option, Some, None, refl, sym, ◌∙◌, ap, ap₂, subst, arith, inl, inr, true≢false, leb-true, leb-false}
use Rattle.seg_words.proofs.Lemmas.{cases_Bool}
use Rattle.seg_words.specs.Types.{Shape, Slot, Rowid, Block, UndoAddr}
use Rattle.redo_model.specs.Records.{Record}
use Rattle.redo_model.specs.Model.{commit_count, image_at, row_at, slot_count, at_place, data_blocks, number_or_zero}
use Rattle.redo_model.proofs.Bridge.{count_is}
use Rattle.row_block.specs.Types.{RowPage}
use Rattle.version_laws.specs.Types.{HoldsRows}
use Rattle.version_laws.proofs.SlotLaw.{slots_past_the_last}
use Rattle.version_read.specs.Walking as walking
use Rattle.version_read.specs.Walking.{txn_or_none, IsReader, SeesRow, SeesNone, IsRefusedEntry}
use Rattle.version_read.proofs.Answering.{given_now}
use Rattle.version_read.specs.declared.chain.Seen.TheVariants as seens
use Rattle.page_set.specs.declared.page.Page.{Page}
use Rattle.page_set.specs.declared.page.Page.TheVariants.{Rows}
use Rattle.page_set.specs.Folded.{page_of}
use Rattle.store_laws.proofs.KindsLaw.{rows_stand, rows_are_held}
use Rattle.change_laws.specs.Types.{IsOwn, row_now, now_at, HeadOf}
use Rattle.change_laws.proofs.LookLaw.{rows_have_undo}
use Rattle.change_laws.proofs.BodyLaw.{bodies_name_heads}
use Rattle.place_laws.specs.Located.{IsHeadOf, IsSeenAt}
use Rattle.place_laws.proofs.LocatedLaw.{given_are_at_home}
use Rattle.row_change.specs.declared.sight.Search.{Search}
use Rattle.row_change.specs.declared.sight.Sight.{Sight}
use Rattle.row_change.specs.Locating.{rows_of, IsSearch, SightOf, HasSight, IsSeen, Sees, SeesFor, NoneFrom}
use Rattle.row_change.specs.Looking.{Keeps}
use Rattle.row_change.proofs.Addresses.{addr_inside}

-- the search as a reader of versions

number_same : (own : Option ℕ) → txn_or_none own ≡ number_or_zero own
number_same None = refl
number_same (Some t) = refl

own_read : (R : List Record) (own : Option ℕ) → IsOwn R own → walking.IsOwn R own
own_read R None h = tt
own_read R (Some t) h = h

pub reader_of : (sh : Shape) (R : List Record) (o : ℕ) (q : Search) → IsSearch sh R o q → IsReader q.shape R q.own
reader_of sh R o q h = record { shape = h.within; allowed = h.lawful.allowed; reader = own_read R q.own h.own_is }

image_same : (sh : Shape) (R : List Record) (o : ℕ) (q : Search) (p : Rowid) → IsSearch sh R o q → image_at R p.dba p.slot q.start (txn_or_none q.own) ≡ now_at R q.own p
image_same sh R o q p h = ap₂ (λ s t. image_at R p.dba p.slot s t) h.start_is (number_same q.own)

row_same : (sh : Shape) (R : List Record) (o : ℕ) (q : Search) (p : Rowid) → IsSearch sh R o q → row_at R p.dba p.slot q.start (txn_or_none q.own) ≡ row_now R q.own p
row_same sh R o q p h = ap₂ (λ s t. row_at R p.dba p.slot s t) h.start_is (number_same q.own)

pub all_read : (sh : Shape) (R : List Record) (o : ℕ) (q : Search) → IsSearch sh R o q → commit_count R ≤ q.start
all_read sh R o q h = let e = h.start_is in omega (arith, e)

-- images

pub has_sight : (sh : Shape) (R : List Record) (o : ℕ) (q : Search) (b k : ℕ) (i : Slot) → IsSearch sh R o q → SeesRow R b k q.start (txn_or_none q.own) i → HasSight i
has_sight sh R o q b k i h v =
    let u = rows_have_undo q.shape R b k q.start (txn_or_none q.own) i.row i.bytes h.lawful.allowed v.row in
    record {
      undo = u.undo;
      undo_is = ap (λ (x : Slot). x.undo) v.seen ∙ u.undo_is;
      head = λ body. subst HeadOf (sym v.seen) (bodies_name_heads q.shape R b k q.start (txn_or_none q.own) h.lawful.allowed (ap (λ (x : Slot). x.kind) (sym v.seen) ∙ body));
    }

no_row : (n : ℕ) (bytes : List ℕ) → ◌≡◌ {A = Option (ℕ × List ℕ)} None (Some (n, bytes)) → ⊥
no_row n bytes e = cc

pub sees_row : (sh : Shape) (R : List Record) (o : ℕ) (q : Search) (p : Rowid) (i : Slot) (x : Option Sight) → IsSearch sh R o q → SeesRow R p.dba p.slot q.start (txn_or_none q.own) i → SightOf i p x → Sees R q.own p x
sees_row sh R o q p i None h v w = λ n bytes e. w v.holds
sees_row sh R o q p i (Some x) h v w =
    let here : i ≡ now_at R q.own p = v.seen ∙ image_same sh R o q p h in
    record {
      at_is = w.at_is;
      seen = record {
        bytes = i.bytes;
        row = sym (row_same sh R o q p h) ∙ v.row ∙ ap (λ n. Some (n, i.bytes)) w.row;
        undo_is = ap (λ (y : Slot). y.undo) (sym here) ∙ w.undo_is;
        head_is = subst (λ (y : Slot). IsHeadOf y x.head) here w.head_is;
      };
    }

pub sees_none : (sh : Shape) (R : List Record) (o : ℕ) (q : Search) (p : Rowid) → IsSearch sh R o q → SeesNone R p.dba p.slot q.start (txn_or_none q.own) → Sees R q.own p None
sees_none sh R o q p h v = λ n bytes e. no_row n bytes (sym v.row ∙ row_same sh R o q p h ∙ e)

past_last : (R : List Record) (own : Option ℕ) (p : Rowid) → slot_count R p.dba ≤ p.slot → Sees R own p None
past_last R own p l = λ n bytes e. no_row n bytes (sym ((slots_past_the_last R p.dba p.slot l).row (commit_count R) (number_or_zero own)) ∙ e)

pub no_slot : (R : List Record) (own : Option ℕ) (p : Rowid) → (p.slot < slot_count R p.dba → false ≡ true) → Sees R own p None
no_slot R own p h = elim (cases_Bool (leb (slot_count R p.dba) p.slot)) [
  | inl y ↦ past_last R own p (leb-true (slot_count R p.dba) p.slot y)
  | inr f ↦ absurd (true≢false (sym (h (leb-false (slot_count R p.dba) p.slot f))))
]

-- at all commits nothing is too old

pub never_unknown : (sh : Shape) (R : List Record) (o : ℕ) (q : Search) (b k u : ℕ) → IsSearch sh R o q → IsRefusedEntry R b k q.start (txn_or_none q.own) u → ⊥
never_unknown sh R o q b k u h v = given_now q.shape R b k q.start q.own (seens.TooOldEntry u) (reader_of sh R o q h) (all_read sh R o q h) v

-- pages

pub rows_held : {A : Type 0} (value : A → RowPage) (sh : Shape) (R : List Record) (b : ℕ) (p : Page) (x : A) → p ≡ page_of sh R b → ◌≡◌ {A = Option RowPage} (Some (value x)) (rows_of p) → HoldsRows R b (value x)
rows_held value sh R b (Rows r) x e t = let same : value x ≡ r = cc in subst (HoldsRows R b) (sym same) (rows_are_held sh R b r (sym e))
rows_held value sh R b _ x e t = absurd cc

pub no_rows : (sh : Shape) (R : List Record) (o i : ℕ) (q : Search) (page : Page) (p : Rowid) → IsSearch sh R o q → slice_get (data_blocks q.shape R o) i ≡ Some p.dba → page ≡ page_of q.shape R p.dba → ◌≡◌ {A = Option RowPage} None (rows_of page) → Sees R q.own p None
no_rows sh R o i q page p h at e t = λ n bytes f.
    let here = given_are_at_home q.shape R q.own o n i p bytes h.lawful.allowed h.there at f in
    let has = rows_stand q.shape R o p.dba h.within h.lawful here in
    (let z : ◌≡◌ {A = Option RowPage} None (Some has.rows) = t ∙ ap rows_of (e ∙ has.page) in absurd cc)

pub none_from : (R : List Record) (q : Search) (b count : ℕ) (r : RowPage) → HoldsRows R b r → count ≡ length r.block.slots → NoneFrom R q b count
none_from R q b count r h c = λ k l.
    let all : count ≡ slot_count R b = c ∙ ap (λ (x : Block). length x.slots) h.block ∙ count_is R b in
    past_last R q.own (at_place b k) (omega (arith, all, l))

pub same_image : (i j : Slot) → ◌≡◌ {A = Option Slot} (Some i) (Some j) → i ≡ j
same_image i j e = cc

-- of one row

row_inside : (m n : ℕ) (x y : List ℕ) → ◌≡◌ {A = Option (ℕ × List ℕ)} (Some (m, x)) (Some (n, y)) → m ≡ n
row_inside m n x y e = ap (λ (o : Option (ℕ × List ℕ)). elim o as (λ _. ℕ) [ None ↦ 0 | Some p ↦ p.0 ]) e

pub sees_it : (R : List Record) (own : Option ℕ) (n : ℕ) (p : Rowid) (x : Sight) → x.row ≡ n → Sees R own p (Some x) → SeesFor R own n p (Some x)
sees_it R own n p x e v = record { at_is = v.at_is; seen = subst (λ m. IsSeenAt R own m p x.undo x.head) e v.seen }

pub sees_other : (R : List Record) (own : Option ℕ) (n : ℕ) (p : Rowid) (x : Sight) → (x.row ≡ n → ⊥) → Sees R own p (Some x) → SeesFor R own n p None
sees_other R own n p x other v = λ bytes e. other (row_inside x.row n v.seen.bytes bytes (sym v.seen.row ∙ e))

-- of one undo address

pub keeps_told : (R : List Record) (own : Option ℕ) (p : Rowid) (x : Sight) (undo : UndoAddr) (v : Bool) → IsSeen R own p x → (v ≡ true → x.undo ≡ undo) → (v ≡ false → x.undo ≡ undo → ⊥) → Keeps R own p undo v
keeps_told R own p x undo true s same other = s.seen.undo_is ∙ ap (λ (a : UndoAddr). Some a) (same refl)
keeps_told R own p x undo false s same other = λ n bytes e z. other refl (addr_inside x.undo undo (sym s.seen.undo_is ∙ z))
