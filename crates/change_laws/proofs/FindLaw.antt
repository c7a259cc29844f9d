-- Where a search finds a row.
use Rattle.std.proofs.Common.{◌≡◌, ℕ, ◌+◌, false, List, Option, Some, refl, sym, ◌∙◌, ap, ap₂, subst, arith, true≢false, inl, inr, le_refl, le-leb, leb-true, lt-ltb, ltb-true}
use Rattle.seg_words.proofs.Lemmas.{and_parts, and_from}
use Rattle.seg_words.specs.Types.{Shape, first_block, is_empty}
use Rattle.redo_model.specs.Records.{Record}
use Rattle.redo_model.specs.Model.{commit_count, at_place, image, IsRowBlock, Extent, extents_of, extent_at, data_blocks, under_high, high_mark, IsTable, number_or_zero, AreAllowed}
use Rattle.redo_laws.specs.Stays.{one_later, not_later}
use Rattle.redo_laws.proofs.space.ApartLaw.{is_listed}
use Rattle.redo_laws.specs.Homes.{row_table}
use Rattle.redo_laws.proofs.allowed.Shapes.{Present, row_block}
use Rattle.redo_laws.proofs.space.Places.{in_take, segments, a_table, same_table}
use Rattle.redo_laws.proofs.spread.SpreadLaw.{rows_are_spread, present_block}
use Rattle.redo_laws.proofs.spread.Whole.{whole}
use Rattle.space_laws.proofs.ExtentsLaw.{data_at, same_place}
use Rattle.change_laws.specs.Looks.{IsBornAt}
use Rattle.change_laws.proofs.LookLaw.{open_of}
use Rattle.change_laws.specs.Finds.{RowBlocksAreBorn, RowsAreFoundOnce, HeadsAreAtHome, FoundPlacesStay}

-- the extent of a block

same_extent_at : (e f : Extent) → ◌≡◌ {A = Option Extent} (Some e) (Some f) → e ≡ f
same_extent_at e f q = cc

born_once : (sh : Shape) (R : List Record) (o b x y : ℕ) → AreAllowed sh R → IsTable R o → IsBornAt sh R o b x → IsBornAt sh R o b y → x ≡ y
born_once sh R o b x y h t p q =
    let n = a_table sh R o (segments sh R h) t in
    let i = and_parts _ _ p.has in
    let j = and_parts _ _ q.has in
    let one = same_place sh R o o p.index q.index b p.extent q.extent h n n p.at q.at (leb-true (first_block sh p.extent.number) b i.0) (ltb-true b (first_block sh p.extent.number + sh.extent) i.1) (leb-true (first_block sh q.extent.number) b j.0) (ltb-true b (first_block sh q.extent.number + sh.extent) j.1) in
    let same : p.extent ≡ q.extent = same_extent_at p.extent q.extent (sym p.at ∙ ap (extent_at (extents_of R o)) one.1 ∙ q.at) in
    sym p.born_is ∙ ap (λ (e : Extent). e.incarnation) same ∙ q.born_is

pub row_blocks_are_born : RowBlocksAreBorn
row_blocks_are_born sh R o b h t here =
    let d = data_at sh 0 (extents_of R o) b (in_take b (high_mark R o) (data_blocks sh R o) (is_listed (under_high sh R o) b here.here)) in
    let from = d.from in
    let to = d.to in
    let at : IsBornAt sh R o b d.extent.incarnation = record {
      index = d.index;
      extent = d.extent;
      at = d.at;
      has = and_from _ _ (le-leb (first_block sh d.extent.number) b (omega (arith, from))) (lt-ltb b (first_block sh d.extent.number + sh.extent) to);
      born_is = refl;
    } in
    record { born = d.extent.incarnation; at = at; only = λ x y. born_once sh R o b x d.extent.incarnation h t y at }

-- rows

pub rows_are_found_once : RowsAreFoundOnce
rows_are_found_once sh R own o n h on t =
    let op = open_of R own on in
    let s = rows_are_spread sh R o (commit_count R) (number_or_zero own) h t (le_refl (commit_count R)) op in
    record {
      given = λ bytes e. s.given n bytes e;
      seen = λ p bytes here e. s.viewed p.dba p.slot n bytes here e;
      once = λ p q x y e f. let z = s.once p.dba p.slot q.dba q.slot n x y e f in ap₂ at_place z.0 z.1;
      kept = λ p born undo bytes here b e u. record { list = R; later = not_later; open_then = op; table = t; here = here; born_then = b; start_is = refl; bytes = bytes; row = e; undo_is = u };
    }

-- heads

record HomeOf (sh : Shape) (R : List Record) (b n : ℕ) : Type 0 where
  obj : ℕ
  present : Present sh R obj b
  table : row_table R n ≡ obj

home_of : (sh : Shape) (R : List Record) (b k n : ℕ) → AreAllowed sh R → is_empty (image R b k).kind ≡ false → (image R b k).row ≡ n → HomeOf sh R b n
home_of sh R b k n h e r = elim ((whole sh R h).homes b) [
  | inl l ↦ record { obj = l.obj; present = l.here; table = ap (row_table R) (sym r) ∙ ((l.rows k).0 e).0 }
  | inr d ↦ absurd (true≢false (sym (d.vacant k).empty ∙ e))
]

pub heads_are_at_home : HeadsAreAtHome
heads_are_at_home sh R o n head body h t here x =
    let g = segments sh R h in
    let top = home_of sh R head.dba head.slot n h (ap is_empty x.head_kind) x.head_row in
    let low = home_of sh R body.dba body.slot n h (ap is_empty x.body_kind) x.body_row in
    let at = row_block sh R o body.dba g t here in
    let own : low.obj ≡ o = same_table sh R low.obj o body.dba g low.present.0 at.0 low.present.1 at.1 in
    subst (λ z. IsRowBlock sh R z head.dba) (sym top.table ∙ low.table ∙ own) (present_block sh R top.obj head.dba g top.present)

pub found_places_stay : FoundPlacesStay
found_places_stay sh R r own o n p born undo start f q = record {
  list = f.list;
  later = one_later r f.later q;
  open_then = f.open_then;
  table = f.table;
  here = f.here;
  born_then = f.born_then;
  start_is = f.start_is;
  bytes = f.bytes;
  row = f.row;
  undo_is = f.undo_is;
}
