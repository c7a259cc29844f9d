-- Heads and bodies name each other, in the images of every closed choice of what counts.
use Rattle.std.proofs.Common.{◌≡◌, ◌⊎◌, ℕ, Bool, true, false, cond, eqb, List, Option, Some, None, refl, sym, ◌∙◌, ap, subst, inl, inr, eqb-true, true≢false, eq-eqb}
use Rattle.seg_words.proofs.Lemmas.{cond-true, cond-false, cases_Bool, and_parts, and_from}
use Rattle.seg_words.specs.Types.{Shape, Kind, Empty, Row, Head, Body, Slot, is_empty, writer_has_ended, Rowid}
use Rattle.redo_model.specs.Records.{Record, RowPart, RowBody, MoveRecord, Insert, Update, Migrate, Return, Delete, Move}
use Rattle.redo_model.specs.Model.{Effect, effect_of, written, ended_in, is_place, placed_in, image, IsKindAllowed, nothing, plain_row, head_to, body_of, with_bytes, at_place, txn_part, next_slot, IsMigrated, InsertAllowed, UpdateAllowed, MigratePlain, MigrateAgain, MigrateAllowed, ReturnAllowed, DeletePlain, DeleteMigrated, DeleteAllowed, move_part, MovePlain, MoveToBody, MoveMigrated, MoveAllowed}
use Rattle.redo_model.specs.Effects.{Adds}
use Rattle.redo_laws.proofs.lists.Every.{Every}
use Rattle.redo_model.specs.AllowedRows.{migrates_plain, migrates_again, deletes_plain, deletes_migrated}
use Rattle.redo_model.specs.AllowedMoves.{moves_plain, moves_to_body, moves_migrated}
use Rattle.redo_laws.proofs.allowed.Shapes.{target_reusable}
use Rattle.redo_laws.proofs.allowed.AllKinds.{target_apart}

-- one place names another
pub record Ties (I : ℕ → ℕ → Slot) (other : Kind) (b k : ℕ) : Type 0 where
  pub block : ℕ
  pub slot : ℕ
  pub link : (I b k).link ≡ Some (at_place block slot)
  pub kind : (I block slot).kind ≡ other
  pub row : (I block slot).row ≡ (I b k).row
  pub back : (I block slot).link ≡ Some (at_place b k)

pub record PairAt (I : ℕ → ℕ → Slot) (b k : ℕ) : Type 0 where
  pub head : (I b k).kind ≡ Head → Ties I Body b k
  pub body : (I b k).kind ≡ Body → Ties I Head b k

abbrev pub Paired : (ℕ → ℕ → Slot) → Type 0
Paired I = (b k : ℕ) → PairAt I b k

-- a head or a body
abbrev pub is_tied : Kind → Bool
is_tied Empty = false
is_tied Row = false
is_tied Head = true
is_tied Body = true

abbrev pub Loose : Slot → Type 0
Loose i = is_tied i.kind ≡ false

pub record Like (i j : Slot) : Type 0 where
  pub kind : i.kind ≡ j.kind
  pub row : i.row ≡ j.row
  pub link : i.link ≡ j.link

pub like_same : (i : Slot) → Like i i
like_same i = record { kind = refl; row = refl; link = refl }

pub like_eq : (i j : Slot) → i ≡ j → Like i j
like_eq i j e = record { kind = ap (λ (x : Slot). x.kind) e; row = ap (λ (x : Slot). x.row) e; link = ap (λ (x : Slot). x.link) e }

like_ties : (I J : ℕ → ℕ → Slot) (o : Kind) (b k : ℕ) → ((c l : ℕ) → Like (I c l) (J c l)) → Ties I o b k → Ties J o b k
like_ties I J o b k h t = record {
  block = t.block;
  slot = t.slot;
  link = sym (h b k).link ∙ t.link;
  kind = sym (h t.block t.slot).kind ∙ t.kind;
  row = sym (h t.block t.slot).row ∙ t.row ∙ (h b k).row;
  back = sym (h t.block t.slot).link ∙ t.back;
}

pub like_paired : (I J : ℕ → ℕ → Slot) → ((c l : ℕ) → Like (I c l) (J c l)) → Paired I → Paired J
like_paired I J h p b k = record {
  head = λ e. like_ties I J Body b k h ((p b k).head ((h b k).kind ∙ e));
  body = λ e. like_ties I J Head b k h ((p b k).body ((h b k).kind ∙ e));
}

loose_head : (i : Slot) (P : Type 0) → Loose i → i.kind ≡ Head → P
loose_head i P l e = absurd (true≢false (sym (ap is_tied e) ∙ l))

loose_body : (i : Slot) (P : Type 0) → Loose i → i.kind ≡ Body → P
loose_body i P l e = absurd (true≢false (sym (ap is_tied e) ∙ l))

-- a place with another image
abbrev pub with_at : (ℕ → ℕ → Slot) → ℕ → ℕ → Slot → ℕ → ℕ → Slot
with_at I b k v c l = cond (is_place b k c l) v (I c l)

same_place : (b k c l : ℕ) → is_place b k c l ≡ true → (b ≡ c) × (k ≡ l)
same_place b k c l h = let q = and_parts (eqb b c) (eqb k l) h in (eqb-true b c q.0, eqb-true k l q.1)

self_place : (b k : ℕ) → is_place b k b k ≡ true
self_place b k = and_from _ _ (eq-eqb b b refl) (eq-eqb k k refl)

place_sym : (b k c l : ℕ) → is_place b k c l ≡ false → is_place c l b k ≡ false
place_sym b k c l h = elim (cases_Bool (is_place c l b k)) [
  | inl y ↦ let q = same_place c l b k y in absurd (true≢false (sym (and_from _ _ (eq-eqb b c (sym q.0)) (eq-eqb k l (sym q.1))) ∙ h))
  | inr n ↦ n
]

with_here : (I : ℕ → ℕ → Slot) (b k : ℕ) (v : Slot) → with_at I b k v b k ≡ v
with_here I b k v = cond-true _ _ _ (self_place b k)

-- partners that stay
stay_ties : (I J : ℕ → ℕ → Slot) (o : Kind) (b k : ℕ) (t : Ties I o b k) → J b k ≡ I b k → J t.block t.slot ≡ I t.block t.slot → Ties J o b k
stay_ties I J o b k t e f = record {
  block = t.block;
  slot = t.slot;
  link = ap (λ (x : Slot). x.link) e ∙ t.link;
  kind = ap (λ (x : Slot). x.kind) f ∙ t.kind;
  row = ap (λ (x : Slot). x.row) f ∙ t.row ∙ ap (λ (x : Slot). x.row) (sym e);
  back = ap (λ (x : Slot). x.link) f ∙ t.back;
}

-- where only loose places change, and stay loose
pub loose_change : (I J : ℕ → ℕ → Slot) → ((b k : ℕ) → (J b k ≡ I b k) ⊎ (Loose (I b k) × Loose (J b k))) → Paired I → Paired J
loose_change I J h p b k = elim (h b k) [
  | inr l ↦ record { head = λ e. loose_head (J b k) _ l.1 e; body = λ e. loose_body (J b k) _ l.1 e }
  | inl same ↦ record {
    head = λ e. let t = (p b k).head (ap (λ (x : Slot). x.kind) (sym same) ∙ e) in elim (h t.block t.slot) [
      | inl f ↦ stay_ties I J Body b k t same f
      | inr l ↦ loose_body (I t.block t.slot) _ l.0 t.kind
    ];
    body = λ e. let t = (p b k).body (ap (λ (x : Slot). x.kind) (sym same) ∙ e) in elim (h t.block t.slot) [
      | inl f ↦ stay_ties I J Head b k t same f
      | inr l ↦ loose_head (I t.block t.slot) _ l.0 t.kind
    ];
  }
]

pub one_loose : (I : ℕ → ℕ → Slot) (b k : ℕ) (v : Slot) → Loose (I b k) → Loose v → Paired I → Paired (with_at I b k v)
one_loose I b k v l m p = loose_change I (with_at I b k v) (λ c d. elim (cases_Bool (is_place b k c d)) [
  | inl y ↦ let q = same_place b k c d y in inr (subst (λ x. Loose (I x d)) q.0 (subst (λ x. Loose (I b x)) q.1 l), ap (λ (i : Slot). is_tied i.kind) (cond-true _ _ _ y) ∙ m)
  | inr n ↦ inl (cond-false _ _ _ n)
]) p

-- a head and its body, as they are in the images
pub record IsPair (I : ℕ → ℕ → Slot) (hb hs bb bs : ℕ) : Type 0 where
  pub head : (I hb hs).kind ≡ Head
  pub body : (I bb bs).kind ≡ Body
  pub down : (I hb hs).link ≡ Some (at_place bb bs)
  pub up : (I bb bs).link ≡ Some (at_place hb hs)

abbrev link_block : Option Rowid → ℕ
link_block None = 0
link_block (Some r) = r.dba

abbrev link_slot : Option Rowid → ℕ
link_slot None = 0
link_slot (Some r) = r.slot

same_link : (b k c l : ℕ) (o : Option Rowid) → o ≡ Some (at_place b k) → o ≡ Some (at_place c l) → (b ≡ c) × (k ≡ l)
same_link b k c l o e f =
    let g : ◌≡◌ {A = Option Rowid} (Some (at_place b k)) (Some (at_place c l)) = sym e ∙ f in
    (ap link_block g, ap link_slot g)

kind_apart : (P : Type 0) (k : Kind) → k ≡ Head → k ≡ Body → P
kind_apart P k e f = absurd (let x : Head ≡ Body = sym e ∙ f in cc)

-- a pair comes apart
abbrev apart_at : (ℕ → ℕ → Slot) → ℕ → ℕ → ℕ → ℕ → Slot → Slot → ℕ → ℕ → Slot
apart_at I hb hs bb bs v w = with_at (with_at I bb bs v) hb hs w

at_kind : (I : ℕ → ℕ → Slot) (b k c l : ℕ) (o : Kind) → (b ≡ c) × (k ≡ l) → (I b k).kind ≡ o → (I c l).kind ≡ o
at_kind I b k c l o q e = subst (λ x. (I c x).kind ≡ o) q.1 (subst (λ x. (I x k).kind ≡ o) q.0 e)

at_link : (I : ℕ → ℕ → Slot) (b k c l : ℕ) (o : Option Rowid) → (b ≡ c) × (k ≡ l) → (I b k).link ≡ o → (I c l).link ≡ o
at_link I b k c l o q e = subst (λ x. (I c x).link ≡ o) q.1 (subst (λ x. (I x k).link ≡ o) q.0 e)

not_place : (b k c l : ℕ) → is_place b k c l ≡ false → (b ≡ c) × (k ≡ l) → ⊥
not_place b k c l n q = true≢false (sym (and_from _ _ (eq-eqb b c q.0) (eq-eqb k l q.1)) ∙ n)

-- a place that is neither stays
away : (I : ℕ → ℕ → Slot) (hb hs bb bs : ℕ) (v w : Slot) (c l : ℕ) → (is_place hb hs c l ≡ true → ⊥) → (is_place bb bs c l ≡ true → ⊥) → apart_at I hb hs bb bs v w c l ≡ I c l
away I hb hs bb bs v w c l f g = elim (cases_Bool (is_place hb hs c l)) [
  | inl y ↦ absurd (f y)
  | inr n ↦ elim (cases_Bool (is_place bb bs c l)) [ inl y ↦ absurd (g y) | inr m ↦ cond-false _ _ _ n ∙ cond-false _ _ _ m ]
]

pub unpaired : (I : ℕ → ℕ → Slot) (hb hs bb bs : ℕ) (v w : Slot) → IsPair I hb hs bb bs → Loose v → Loose w → Paired I → Paired (apart_at I hb hs bb bs v w)
unpaired I hb hs bb bs v w q lv lw p c l =
    elim (cases_Bool (is_place hb hs c l)) [
      | inl y ↦ (let e : apart_at I hb hs bb bs v w c l ≡ w = cond-true _ _ _ y in record { head = λ x. loose_head w _ lw (ap (λ (i : Slot). i.kind) (sym e) ∙ x); body = λ x. loose_body w _ lw (ap (λ (i : Slot). i.kind) (sym e) ∙ x) })
      | inr n ↦ elim (cases_Bool (is_place bb bs c l)) [
        | inl y ↦ (let e : apart_at I hb hs bb bs v w c l ≡ v = cond-false _ _ _ n ∙ cond-true _ _ _ y in record { head = λ x. loose_head v _ lv (ap (λ (i : Slot). i.kind) (sym e) ∙ x); body = λ x. loose_body v _ lv (ap (λ (i : Slot). i.kind) (sym e) ∙ x) })
        | inr m ↦ (let e : apart_at I hb hs bb bs v w c l ≡ I c l = cond-false _ _ _ n ∙ cond-false _ _ _ m in record {
          head = λ x.
              let t = (p c l).head (ap (λ (i : Slot). i.kind) (sym e) ∙ x) in
              stay_ties I (apart_at I hb hs bb bs v w) Body c l t e (away I hb hs bb bs v w t.block t.slot
              (λ y. let s = same_place hb hs t.block t.slot y in kind_apart ⊥ (I hb hs).kind q.head (at_kind I t.block t.slot hb hs Body (sym s.0, sym s.1) t.kind))
              (λ y. let s = same_place bb bs t.block t.slot y in not_place hb hs c l n (same_link hb hs c l (I bb bs).link q.up (at_link I t.block t.slot bb bs _ (sym s.0, sym s.1) t.back))));
          body = λ x.
              let t = (p c l).body (ap (λ (i : Slot). i.kind) (sym e) ∙ x) in
              stay_ties I (apart_at I hb hs bb bs v w) Head c l t e (away I hb hs bb bs v w t.block t.slot
              (λ y. let s = same_place hb hs t.block t.slot y in not_place bb bs c l m (same_link bb bs c l (I hb hs).link q.down (at_link I t.block t.slot hb hs _ (sym s.0, sym s.1) t.back)))
              (λ y. let s = same_place bb bs t.block t.slot y in kind_apart ⊥ (I bb bs).kind (at_kind I t.block t.slot bb bs Head (sym s.0, sym s.1) t.kind) q.body));
        })
      ]
    ]

-- a pair is made of two loose places
pub record Makes (v w : Slot) (hb hs bb bs : ℕ) : Type 0 where
  pub head : w.kind ≡ Head
  pub body : v.kind ≡ Body
  pub down : w.link ≡ Some (at_place bb bs)
  pub up : v.link ≡ Some (at_place hb hs)
  pub row : v.row ≡ w.row

pub paired : (I : ℕ → ℕ → Slot) (hb hs bb bs : ℕ) (v w : Slot) → Makes v w hb hs bb bs → Loose (I hb hs) → Loose (I bb bs) → is_place hb hs bb bs ≡ false → Paired I → Paired (apart_at I hb hs bb bs v w)
paired I hb hs bb bs v w q lh lb ap' p c l =
    let J = apart_at I hb hs bb bs v w in
    let at_head : apart_at I hb hs bb bs v w hb hs ≡ w = cond-true _ _ _ (self_place hb hs) in
    let at_body : apart_at I hb hs bb bs v w bb bs ≡ v = cond-false _ _ _ ap' ∙ cond-true _ _ _ (self_place bb bs) in
    elim (cases_Bool (is_place hb hs c l)) [
      | inl y ↦
          let s = same_place hb hs c l y in
          let here : PairAt J hb hs = record {
            head = λ x. record { block = bb; slot = bs; link = ap (λ (i : Slot). i.link) at_head ∙ q.down; kind = ap (λ (i : Slot). i.kind) at_body ∙ q.body; row = ap (λ (i : Slot). i.row) at_body ∙ q.row ∙ ap (λ (i : Slot). i.row) (sym at_head); back = ap (λ (i : Slot). i.link) at_body ∙ q.up };
            body = λ x. kind_apart _ w.kind q.head (ap (λ (i : Slot). i.kind) (sym at_head) ∙ x);
          } in
          subst (λ z. PairAt J c z) s.1 (subst (λ z. PairAt J z hs) s.0 here)
      | inr n ↦ elim (cases_Bool (is_place bb bs c l)) [
        | inl y ↦
            let s = same_place bb bs c l y in
            let here : PairAt J bb bs = record {
              head = λ x. kind_apart _ v.kind (ap (λ (i : Slot). i.kind) (sym at_body) ∙ x) q.body;
              body = λ x. record { block = hb; slot = hs; link = ap (λ (i : Slot). i.link) at_body ∙ q.up; kind = ap (λ (i : Slot). i.kind) at_head ∙ q.head; row = ap (λ (i : Slot). i.row) at_head ∙ sym q.row ∙ ap (λ (i : Slot). i.row) (sym at_body); back = ap (λ (i : Slot). i.link) at_head ∙ q.down };
            } in
            subst (λ z. PairAt J c z) s.1 (subst (λ z. PairAt J z bs) s.0 here)
        | inr m ↦ (let e : apart_at I hb hs bb bs v w c l ≡ I c l = cond-false _ _ _ n ∙ cond-false _ _ _ m in record {
          head = λ x.
              let t = (p c l).head (ap (λ (i : Slot). i.kind) (sym e) ∙ x) in
              stay_ties I (apart_at I hb hs bb bs v w) Body c l t e (away I hb hs bb bs v w t.block t.slot
              (λ y. let s = same_place hb hs t.block t.slot y in loose_body (I hb hs) ⊥ lh (at_kind I t.block t.slot hb hs Body (sym s.0, sym s.1) t.kind))
              (λ y. let s = same_place bb bs t.block t.slot y in loose_body (I bb bs) ⊥ lb (at_kind I t.block t.slot bb bs Body (sym s.0, sym s.1) t.kind)));
          body = λ x.
              let t = (p c l).body (ap (λ (i : Slot). i.kind) (sym e) ∙ x) in
              stay_ties I (apart_at I hb hs bb bs v w) Head c l t e (away I hb hs bb bs v w t.block t.slot
              (λ y. let s = same_place hb hs t.block t.slot y in loose_head (I hb hs) ⊥ lh (at_kind I t.block t.slot hb hs Head (sym s.0, sym s.1) t.kind))
              (λ y. let s = same_place bb bs t.block t.slot y in loose_head (I bb bs) ⊥ lb (at_kind I t.block t.slot bb bs Head (sym s.0, sym s.1) t.kind)));
        })
      ]
    ]

-- each kind of step keeps the pairs

-- the choice of images is the present one at the slots that the step names
abbrev pub IsNow : List Record → (ℕ → ℕ → Slot) → List RowPart → Type 0
IsNow R I ps = Every (λ (p : RowPart). I p.dba p.slot ≡ image R p.dba p.slot) ps

abbrev pub KeepsPairs : List Record → List RowPart → Type 0
KeepsPairs R ps = (I : ℕ → ℕ → Slot) → IsNow R I ps → Paired I → Paired (λ b k. placed_in (written ps) b k (I b k))

loose_of : (i j : Slot) → i ≡ j → Loose j → Loose i
loose_of i j e l = ap (λ (x : Slot). is_tied x.kind) e ∙ l

loose_empty : (i : Slot) → is_empty i.kind ≡ true → Loose i
loose_empty i e = go i.kind e
  where
    go : (k : Kind) → is_empty k ≡ true → is_tied k ≡ false
    go Empty e = refl
    go Row e = absurd (true≢false (sym e))
    go Head e = absurd (true≢false (sym e))
    go Body e = absurd (true≢false (sym e))

loose_target : (R : List Record) (b : ℕ) → Loose (image R b (next_slot R b))
loose_target R b = loose_empty (image R b (next_slot R b)) (and_parts (is_empty (image R b (next_slot R b)).kind) (writer_has_ended (ended_in R) (image R b (next_slot R b)).writer) (target_reusable R b)).0

loose_row : (i : Slot) → i.kind ≡ Row → Loose i
loose_row i e = ap is_tied e

pair_now : (R : List Record) (I : ℕ → ℕ → Slot) (n hb hs bb bs : ℕ) → I hb hs ≡ image R hb hs → I bb bs ≡ image R bb bs → IsMigrated R n hb hs bb bs → IsPair I hb hs bb bs
pair_now R I n hb hs bb bs e f m = record {
  head = ap (λ (x : Slot). x.kind) e ∙ m.head_kind;
  body = ap (λ (x : Slot). x.kind) f ∙ m.body_kind;
  down = ap (λ (x : Slot). x.link) e ∙ m.head_link;
  up = ap (λ (x : Slot). x.link) f ∙ m.body_link;
}

insert_pairs : (sh : Shape) (R : List Record) (w : RowBody) → InsertAllowed sh R w → KeepsPairs R w.parts
insert_pairs sh R w a = subst (KeepsPairs R) (sym a.parts) (λ I now p. one_loose I a.block (next_slot R a.block) _ (loose_of _ _ now.0 (loose_target R a.block)) refl p)

-- a place that gets an image like its own
with_like : (I : ℕ → ℕ → Slot) (b k : ℕ) (v : Slot) → Like (I b k) v → (c l : ℕ) → Like (I c l) (with_at I b k v c l)
with_like I b k v h c l = elim (cases_Bool (is_place b k c l)) [
  | inl y ↦
      let q = same_place b k c l y in
      let here : Like (I b k) (with_at I b k v b k) = record { kind = h.kind ∙ ap (λ (x : Slot). x.kind) (sym (with_here I b k v)); row = h.row ∙ ap (λ (x : Slot). x.row) (sym (with_here I b k v)); link = h.link ∙ ap (λ (x : Slot). x.link) (sym (with_here I b k v)) } in
      subst (λ x. Like (I c x) (with_at I b k v c x)) q.1 (subst (λ x. Like (I x k) (with_at I b k v x k)) q.0 here)
  | inr n ↦ like_eq (I c l) (with_at I b k v c l) (sym (cond-false _ _ _ n))
]

update_pairs : (sh : Shape) (R : List Record) (w : RowBody) → UpdateAllowed sh R w → KeepsPairs R w.parts
update_pairs sh R w a =
    let v : RowPart = txn_part R w 0 a.entry a.block a.slot (with_bytes (image R a.block a.slot) a.bytes) in
    subst (KeepsPairs R) (sym a.parts) (λ I now p. like_paired I (with_at I a.block a.slot v.new)
    (with_like I a.block a.slot v.new (record { kind = ap (λ (x : Slot). x.kind) now.0; row = ap (λ (x : Slot). x.row) now.0; link = ap (λ (x : Slot). x.link) now.0 })) p)

migrate_plain_pairs : (sh : Shape) (R : List Record) (w : RowBody) → MigratePlain sh R w → KeepsPairs R w.parts
migrate_plain_pairs sh R w a =
    let t = next_slot R a.target in
    let p0 : RowPart = txn_part R w 0 a.entry a.block a.slot (head_to w.row (at_place a.target t)) in
    let p1 : RowPart = txn_part R w 1 a.target_entry a.target t (body_of w.row (at_place a.block a.slot) a.bytes) in
    subst (KeepsPairs R) (sym a.parts) (λ I now p. paired I a.block a.slot a.target t p1.new p0.new
    (record { head = refl; body = refl; down = refl; up = refl; row = refl })
    (loose_of _ _ now.0 (loose_row (image R a.block a.slot) a.plain.kind)) (loose_of _ _ now.1.0 (loose_target R a.target)) (target_apart R a.block a.slot a.target (ap is_empty a.plain.kind)) p)

-- three places in another order
reorder : (I : ℕ → ℕ → Slot) (hb hs bb bs tb ts : ℕ) (h h' e t : Slot) → is_place bb bs tb ts ≡ false → (c l : ℕ)
    → apart_at (apart_at I hb hs bb bs e h') hb hs tb ts t h c l ≡ cond (is_place hb hs c l) h (cond (is_place bb bs c l) e (cond (is_place tb ts c l) t (I c l)))
reorder I hb hs bb bs tb ts h h' e t ap' c l =
    elim (cases_Bool (is_place hb hs c l)) [
      | inl y ↦ cond-true _ _ _ y ∙ sym (cond-true _ _ _ y)
      | inr n ↦ cond-false _ _ _ n ∙ elim (cases_Bool (is_place tb ts c l)) [
        | inl y ↦
            let q = same_place tb ts c l y in
            let m : is_place bb bs c l ≡ false = subst (λ x. is_place bb bs c x ≡ false) q.1 (subst (λ x. is_place bb bs x ts ≡ false) q.0 ap') in
            cond-true _ _ _ y ∙ sym (cond-false _ _ _ n ∙ cond-false _ _ _ m ∙ cond-true _ _ _ y)
        | inr m ↦ cond-false _ _ _ m ∙ cond-false _ _ _ n ∙ elim (cases_Bool (is_place bb bs c l)) [
          | inl y ↦ cond-true _ _ _ y ∙ sym (cond-false _ _ _ n ∙ cond-true _ _ _ y)
          | inr o ↦ cond-false _ _ _ o ∙ sym (cond-false _ _ _ n ∙ cond-false _ _ _ o ∙ cond-false _ _ _ m)
        ]
      ]
    ]

loose_apart : (I : ℕ → ℕ → Slot) (hb hs bb bs : ℕ) (v w : Slot) (c l : ℕ) → Loose v → Loose w → Loose (I c l) → Loose (apart_at I hb hs bb bs v w c l)
loose_apart I hb hs bb bs v w c l lv lw li =
    elim (is_place hb hs c l) as (λ x. Loose (cond x w (cond (is_place bb bs c l) v (I c l)))) [ true ↦ lw | false ↦ elim (is_place bb bs c l) as (λ y. Loose (cond y v (I c l))) [ true ↦ lv | false ↦ li ] ]

migrate_again_pairs : (sh : Shape) (R : List Record) (w : RowBody) → MigrateAgain sh R w → KeepsPairs R w.parts
migrate_again_pairs sh R w a =
    let t = next_slot R a.target in
    let p0 : RowPart = txn_part R w 0 a.head_entry a.head_block a.head_slot (head_to w.row (at_place a.target t)) in
    let p1 : RowPart = txn_part R w 1 a.body_entry a.body_block a.body_slot nothing in
    let p2 : RowPart = txn_part R w 2 a.target_entry a.target t (body_of w.row (at_place a.head_block a.head_slot) a.bytes) in
    let off_head = target_apart R a.head_block a.head_slot a.target (ap is_empty a.migrated.head_kind) in
    let off_body = target_apart R a.body_block a.body_slot a.target (ap is_empty a.migrated.body_kind) in
    subst (KeepsPairs R) (sym a.parts) (λ I now p.
    let first : Paired (apart_at I a.head_block a.head_slot a.body_block a.body_slot p1.new p1.new) =
    unpaired I a.head_block a.head_slot a.body_block a.body_slot p1.new p1.new (pair_now R I w.row a.head_block a.head_slot a.body_block a.body_slot now.0 now.1.0 a.migrated) refl refl p in
    let second = paired (apart_at I a.head_block a.head_slot a.body_block a.body_slot p1.new p1.new) a.head_block a.head_slot a.target t p2.new p0.new
    (record { head = refl; body = refl; down = refl; up = refl; row = refl })
    (loose_of _ p1.new (cond-true _ _ _ (self_place a.head_block a.head_slot)) refl)
    (loose_apart I a.head_block a.head_slot a.body_block a.body_slot p1.new p1.new a.target t refl refl (loose_of _ _ now.1.1.0 (loose_target R a.target)))
    off_head first in
    like_paired _ _ (λ c l. like_eq _ _ (reorder I a.head_block a.head_slot a.body_block a.body_slot a.target t p0.new p1.new p1.new p2.new off_body c l)) second)

return_pairs : (sh : Shape) (R : List Record) (w : RowBody) → ReturnAllowed sh R w → KeepsPairs R w.parts
return_pairs sh R w a = subst (KeepsPairs R) (sym a.parts) (λ I now p. unpaired I a.head_block a.head_slot a.body_block a.body_slot _ _ (pair_now R I w.row a.head_block a.head_slot a.body_block a.body_slot now.0 now.1.0 a.migrated) refl refl p)

delete_plain_pairs : (sh : Shape) (R : List Record) (w : RowBody) → DeletePlain sh R w → KeepsPairs R w.parts
delete_plain_pairs sh R w a = subst (KeepsPairs R) (sym a.parts) (λ I now p. one_loose I a.block a.slot _ (loose_of _ _ now.0 (loose_row (image R a.block a.slot) a.plain.kind)) refl p)

delete_migrated_pairs : (sh : Shape) (R : List Record) (w : RowBody) → DeleteMigrated sh R w → KeepsPairs R w.parts
delete_migrated_pairs sh R w a = subst (KeepsPairs R) (sym a.parts) (λ I now p. unpaired I a.head_block a.head_slot a.body_block a.body_slot _ _ (pair_now R I w.row a.head_block a.head_slot a.body_block a.body_slot now.0 now.1.0 a.migrated) refl refl p)

move_plain_pairs : (sh : Shape) (R : List Record) (m : MoveRecord) → MovePlain sh R m → KeepsPairs R m.parts
move_plain_pairs sh R m a =
    let t = next_slot R a.target in
    let p1 : RowPart = move_part R m 1 a.target t (plain_row m.row (image R a.block a.slot).bytes) in
    let off = place_sym a.block a.slot a.target t (target_apart R a.block a.slot a.target (ap is_empty a.plain.kind)) in
    subst (KeepsPairs R) (sym a.parts) (λ I now p.
    one_loose (with_at I a.target t p1.new) a.block a.slot _ (loose_of _ _ (cond-false _ _ _ off ∙ now.0) (loose_row (image R a.block a.slot) a.plain.kind)) refl
    (one_loose I a.target t p1.new (loose_of _ _ now.1.0 (loose_target R a.target)) refl p))

move_to_body_pairs : (sh : Shape) (R : List Record) (m : MoveRecord) → MoveToBody sh R m → KeepsPairs R m.parts
move_to_body_pairs sh R m a = subst (KeepsPairs R) (sym a.parts) (λ I now p. unpaired I a.head_block a.head_slot a.body_block a.body_slot _ _ (pair_now R I m.row a.head_block a.head_slot a.body_block a.body_slot now.0 now.1.0 a.migrated) refl refl p)

move_migrated_pairs : (sh : Shape) (R : List Record) (m : MoveRecord) → MoveMigrated sh R m → KeepsPairs R m.parts
move_migrated_pairs sh R m a =
    let t = next_slot R a.target in
    let p2 : RowPart = move_part R m 2 a.target t (plain_row m.row (image R a.body_block a.body_slot).bytes) in
    let off_head = place_sym a.head_block a.head_slot a.target t (target_apart R a.head_block a.head_slot a.target (ap is_empty a.migrated.head_kind)) in
    let off_body = place_sym a.body_block a.body_slot a.target t (target_apart R a.body_block a.body_slot a.target (ap is_empty a.migrated.body_kind)) in
    subst (KeepsPairs R) (sym a.parts) (λ I now p.
    unpaired (with_at I a.target t p2.new) a.head_block a.head_slot a.body_block a.body_slot _ _
    (pair_now R (with_at I a.target t p2.new) m.row a.head_block a.head_slot a.body_block a.body_slot (cond-false _ _ _ off_head ∙ now.0) (cond-false _ _ _ off_body ∙ now.1.0) a.migrated) refl refl
    (one_loose I a.target t p2.new (loose_of _ _ now.1.1.0 (loose_target R a.target)) refl p))

migrate_pairs : (sh : Shape) (R : List Record) (w : RowBody) → MigrateAllowed sh R w → KeepsPairs R w.parts
migrate_pairs sh R w (migrates_plain a) = migrate_plain_pairs sh R w a
migrate_pairs sh R w (migrates_again a) = migrate_again_pairs sh R w a

delete_pairs : (sh : Shape) (R : List Record) (w : RowBody) → DeleteAllowed sh R w → KeepsPairs R w.parts
delete_pairs sh R w (deletes_plain a) = delete_plain_pairs sh R w a
delete_pairs sh R w (deletes_migrated a) = delete_migrated_pairs sh R w a

move_pairs : (sh : Shape) (R : List Record) (m : MoveRecord) → MoveAllowed sh R m → KeepsPairs R m.parts
move_pairs sh R m (moves_plain a) = move_plain_pairs sh R m a
move_pairs sh R m (moves_to_body a) = move_to_body_pairs sh R m a
move_pairs sh R m (moves_migrated a) = move_migrated_pairs sh R m a

abbrev pub EffectPairs : List Record → Effect → Type 0
EffectPairs R (Adds st) = KeepsPairs R st.parts
EffectPairs R _ = Unit {0}

pub pairs_of : (sh : Shape) (R : List Record) (r : Record) → IsKindAllowed sh R r → EffectPairs R (effect_of r)
pairs_of sh R (Insert w) a = insert_pairs sh R w a
pairs_of sh R (Update w) a = update_pairs sh R w a
pairs_of sh R (Migrate w) a = migrate_pairs sh R w a
pairs_of sh R (Return w) a = return_pairs sh R w a
pairs_of sh R (Delete w) a = delete_pairs sh R w a
pairs_of sh R (Move m) a = move_pairs sh R m a
pairs_of sh R _ a = tt
