-- Where each slot is at home: in a formatted block of the table of its rows, or in a block of no table, and then it is
-- vacant.
use Rattle.std.proofs.Common.{◌≡◌, ◌⊎◌, ℕ, zero, suc, ◌≤◌, Bool, true, false, cond, not, ◌||◌, eqb, List, [], ◌∷◌, length, take, drop, get_or, Option, Some, None, refl, sym, ◌∙◌, ap, ap₂, subst, inl, inr, eqb-true, true≢false}
use Rattle.seg_words.proofs.Lemmas.{cond-false, cases_Bool, and_parts, and_from, or_cases, or_parts, or_left, or_right, not-true}
use Rattle.seg_words.specs.Types.{Shape, Slot, By, new_slot, is_empty, writer_has_ended, clean_slot, list_all, is_reusable}
use Rattle.redo_model.specs.Records.{Record, RowPart, BackRecord, Extend, FormatBlock, Lower, ExtendRecord, FormatBlockRecord, LowerRecord}
use Rattle.redo_model.specs.Model.{Step, written, restored, part_addr, txn_count, row_count, is_active, ended_in, is_by, standing, newest_of, is_place, placed_in, image, Made, made_by, without, makers, taken_back, slots_of, is_vacant_block, Extent, extents_of, in_extent, extent_data, data_of, data_blocks, high_mark, is_formatted, is_vacant, kept_length, FormatAllowed, LowerAllowed}
use Rattle.redo_laws.proofs.lists.Every.{Every}
use Rattle.redo_laws.proofs.steps.OnTop.{is_named, off_named, head_named, OnTop}
use Rattle.redo_laws.proofs.steps.Facts.{StatesOld, BegunBy, BackFits, HeadSettled}
use Rattle.redo_model.proofs.Bridge.{image_is}
use Rattle.redo_laws.specs.Among.{is_in}
use Rattle.redo_laws.specs.Homes.{row_table}
use Rattle.redo_laws.proofs.numbers.Known.{Turn}
use Rattle.redo_laws.proofs.steps.Held.{Held, Stands, own_newest}
use Rattle.redo_laws.proofs.spread.Spread.{by_of}
use Rattle.redo_laws.proofs.links.Links.{LinksIn, settled_head, clean_keeps, stands_begun, done_turn}
use Rattle.redo_laws.proofs.space.Places.{in_left, in_right, in_either, in_take, IsNumber, Segments, same_table, a_table, extend_data, extend_keeps, format_first, lower_data}
use Rattle.redo_laws.proofs.allowed.Shapes.{Present, Replaces, AllPut, StepShape, named_part}

-- row n was made, in table o
abbrev pub RowOf : List Record → ℕ → ℕ → Type 0
RowOf R o n = (row_table R n ≡ o) × (n ≤ row_count R)

-- the row of an image that isn't Empty is of table o
abbrev pub RowIn : (ℕ → Type 0) → Slot → Type 0
RowIn of i = is_empty i.kind ≡ false → of i.row

abbrev pub RowsIn : (ℕ → Type 0) → Slot → List Made → Type 0
RowsIn of i ms = RowIn of i × Every (λ (m : Made). RowIn of m.old) ms

-- an Empty slot whose newest maker has ended
pub record Vacant (active : ℕ → Bool) (i : Slot) (ms : List Made) : Type 0 where
  pub empty : is_empty i.kind ≡ true
  pub settled : HeadSettled active ms

pub record Live (present : ℕ → Type 0) (of : ℕ → ℕ → Type 0) (im : ℕ → Slot) (mk : ℕ → List Made) : Type 0 where
  pub obj : ℕ
  pub here : present obj
  pub rows : (k : ℕ) → RowsIn (of obj) (im k) (mk k)

pub record Dead (present : ℕ → Type 0) (active : ℕ → Bool) (im : ℕ → Slot) (mk : ℕ → List Made) : Type 0 where
  pub absent : (o : ℕ) → present o → ⊥
  pub vacant : (k : ℕ) → Vacant active (im k) (mk k)

abbrev pub Home : (ℕ → Type 0) → (ℕ → ℕ → Type 0) → (ℕ → Bool) → (ℕ → Slot) → (ℕ → List Made) → Type 0
Home present of active im mk = Live present of im mk ⊎ Dead present active im mk

abbrev pub HomeIn : Shape → List Record → ℕ → Type 0
HomeIn sh R b = Home (λ o. Present sh R o b) (RowOf R) (is_active R) (image R b) (makers R b)

-- what is in a slot that is named

named_rows : (of : ℕ → Type 0) (R : List Record) (st : Step) (i : ℕ) (ps : List RowPart) (b k : ℕ) (ms : List Made) → AllPut R st i ps → StatesOld R ps → (is_named ps b k ≡ true → of st.row)
    → RowsIn of (image R b k) ms → RowsIn of (placed_in (written ps) b k (image R b k)) (made_by st i ps b k ms)
named_rows of R st i [] b k ms pu old f h = h
named_rows of R st i (p ∷ ps) b k ms pu old f h =
    (elim (is_place p.dba p.slot b k) as (λ v. is_place p.dba p.slot b k ≡ v → ((v || is_named ps b k) ≡ true → of st.row) → RowsIn of (cond v p.new (placed_in (written ps) b k (image R b k))) (cond v (record { by = st.by; undo = st.undo; part = part_addr st.undo i; old = p.old } ∷ ms) (made_by st (suc i) ps b k ms))) [
      | true ↦ λ e g.
          let q = and_parts (eqb p.dba b) (eqb p.slot k) e in
          let same : image R b k ≡ p.old = sym (old.0 ∙ ap₂ (image R) (eqb-true p.dba b q.0) (eqb-true p.slot k q.1)) in
          ((λ n. subst of (sym (pu.0.row n)) (g refl)), (subst (RowIn of) same h.0, h.1))
      | false ↦ λ e g. named_rows of R st (suc i) ps b k ms pu.1 old.1 g h
    ]) refl f

-- a slot that isn't named stays
pub new_left : (ps : List RowPart) (b k : ℕ) (i : Slot) → is_named ps b k ≡ false → placed_in (written ps) b k i ≡ i
new_left [] b k i z = refl
new_left (p ∷ ps) b k i z = let q = or_parts (is_place p.dba p.slot b k) (is_named ps b k) z in cond-false _ _ _ q.0 ∙ new_left ps b k i q.1

pub old_left : (ps : List RowPart) (b k : ℕ) (i : Slot) → is_named ps b k ≡ false → placed_in (restored (taken_back ps)) b k i ≡ i
old_left [] b k i z = refl
old_left (p ∷ ps) b k i z = let q = or_parts (is_place p.dba p.slot b k) (is_named ps b k) z in cond-false _ _ _ q.0 ∙ old_left ps b k i q.1

-- a step: of its row and table, where `of` says which rows are of which table
pub home_adds : (sh : Shape) (R : List Record) (st : Step) (of : ℕ → ℕ → Type 0) → ((o p n : ℕ) → of o n → of p n → o ≡ p) → Segments sh R → of st.obj st.row → StepShape sh R st → (b : ℕ)
    → Home (λ o. Present sh R o b) of (is_active R) (image R b) (makers R b)
    → Home (λ o. Present sh R o b) of (is_active R) (λ k. placed_in (written st.parts) b k (image R b k)) (λ k. made_by st 0 st.parts b k (makers R b k))
home_adds sh R st of one s mine f b (inl h) =
    let table : (k : ℕ) → is_named st.parts b k ≡ true → h.obj ≡ st.obj = λ k n.
    let p = named_part R (Replaces sh R st) st.parts b k f.replaces f.old n in
    elim p.fact [
      | inl y ↦ one h.obj st.obj st.row (subst (of h.obj) (ap (λ (i : Slot). i.row) (sym p.old) ∙ y.1) ((h.rows k).0 (ap (λ (i : Slot). is_empty i.kind) (sym p.old) ∙ y.0))) mine
      | inr z ↦ same_table sh R h.obj st.obj b s h.here.0 z.2.0 h.here.1 (subst (λ x. is_in x (data_blocks sh R st.obj) ≡ true) p.block z.2.1)
    ] in
    inl (record { obj = h.obj; here = h.here; rows = λ k. named_rows (of h.obj) R st 0 st.parts b k (makers R b k) f.puts f.old (λ n. subst (λ o. of o st.row) (sym (table k n)) mine) (h.rows k) })
home_adds sh R st of one s mine f b (inr h) =
    let free : (k : ℕ) → is_named st.parts b k ≡ true → ⊥ = λ k n.
    let p = named_part R (Replaces sh R st) st.parts b k f.replaces f.old n in
    elim p.fact [
      | inl y ↦ true≢false (sym (h.vacant k).empty ∙ ap (λ (i : Slot). is_empty i.kind) (sym p.old) ∙ y.0)
      | inr z ↦ h.absent st.obj (subst (Present sh R st.obj) p.block z.2)
    ] in
    inr (record {
      absent = h.absent;
      vacant = λ k. stays k (not_named k (free k)) (h.vacant k);
    })
  where
    not_named : (k : ℕ) → (is_named st.parts b k ≡ true → ⊥) → is_named st.parts b k ≡ false
    not_named k f = elim (cases_Bool (is_named st.parts b k)) [ inl y ↦ absurd (f y) | inr n ↦ n ]

    stays : (k : ℕ) → is_named st.parts b k ≡ false → Vacant (is_active R) (image R b k) (makers R b k) → Vacant (is_active R) (placed_in (written st.parts) b k (image R b k)) (made_by st 0 st.parts b k (makers R b k))
    stays k n v = subst (λ i. Vacant (is_active R) i (made_by st 0 st.parts b k (makers R b k))) (sym (new_left st.parts b k (image R b k) n))
        (subst (λ ms. Vacant (is_active R) (image R b k) ms) (sym (off_named st 0 st.parts b k (makers R b k) n)) v)

-- a taking back

back_rows : (of : ℕ → Type 0) (st : Step) (i : ℕ) (ps : List RowPart) (b k : ℕ) (im : Slot) (ms : List Made) → RowsIn of im (made_by st i ps b k ms) → RowsIn of (placed_in (restored (taken_back ps)) b k im) ms
back_rows of st i [] b k im ms h = h
back_rows of st i (p ∷ ps) b k im ms h =
    (elim (is_place p.dba p.slot b k) as (λ v. RowsIn of im (cond v (record { by = st.by; undo = st.undo; part = part_addr st.undo i; old = p.old } ∷ ms) (made_by st (suc i) ps b k ms)) → RowsIn of (cond v p.old (placed_in (restored (taken_back ps)) b k im)) ms) [
      | true ↦ λ x. (x.1.0, x.1.1)
      | false ↦ λ x. back_rows of st (suc i) ps b k im ms x
    ]) h

head_active : (active : ℕ → Bool) (u : ℕ) (ms xs : List Made) (m : Made) → HeadSettled active ms → ms ≡ m ∷ xs → m.by ≡ By u → active u ≡ true → ⊥
head_active active u ms xs m h e by on = true≢false (sym on ∙ (let s : HeadSettled active (m ∷ xs) = subst (HeadSettled active) e h in s u by))

pub newest_by : (ss : List Step) (u : ℕ) (st : Step) → newest_of ss u ≡ Some st → st.by ≡ By u
newest_by [] u st h = absurd (let x : ◌≡◌ {A = Option Step} None (Some st) = h in cc)
newest_by (x ∷ ss) u st h =
    (elim (is_by x.by u) as (λ v. is_by x.by u ≡ v → cond v (Some x) (newest_of ss u) ≡ Some st → st.by ≡ By u) [
      | true ↦ λ e f. let same : x ≡ st = cc in subst (λ (z : Step). z.by ≡ By u) same (by_of x.by u e)
      | false ↦ λ e f. newest_by ss u st f
    ]) refl h

pub home_back : (present : ℕ → Type 0) (of : ℕ → ℕ → Type 0) (R : List Record) (t : BackRecord) → BackFits R t → Held (is_active R) (txn_count R) (standing R) (makers R) → (b : ℕ)
    → Home present of (is_active R) (image R b) (makers R b)
    → Home present of (is_active R) (λ k. placed_in (restored t.parts) b k (image R b k)) (λ k. without t.undo (makers R b k))
home_back present of R t f h b x =
    let st = f.step in
    let o = own_newest (standing R) t.txn st f.newest in
    let whole : OnTop (st ∷ o.0) (makers R) = subst (λ us. OnTop us (makers R)) o.1 (h.top t.txn f.active) in
    let lies : (k : ℕ) → makers R b k ≡ made_by st 0 st.parts b k (without t.undo (makers R b k)) = λ k. whole.0 b k ∙ ap (λ z. made_by st 0 st.parts b k (without z (makers R b k))) (sym f.undo) in
    elim x [
      | inl l ↦ inl (record {
        obj = l.obj;
        here = l.here;
        rows = λ k. subst (λ ps. RowsIn (of l.obj) (placed_in (restored ps) b k (image R b k)) (without t.undo (makers R b k))) (sym f.restores)
            (back_rows (of l.obj) st 0 st.parts b k (image R b k) (without t.undo (makers R b k)) (subst (RowsIn (of l.obj) (image R b k)) (lies k) (l.rows k)));
      })
      | inr d ↦ inr (record {
        absent = d.absent;
        vacant = λ k.
            let free : is_named st.parts b k ≡ false = elim (cases_Bool (is_named st.parts b k)) [
              | inl y ↦ let w = head_named st 0 st.parts b k (without t.undo (makers R b k)) y in
                  absurd (head_active (is_active R) t.txn (makers R b k) (without t.undo (makers R b k)) w.made (d.vacant k).settled (lies k ∙ w.list) (w.by_is ∙ newest_by (standing R) t.txn st f.newest) f.active)
              | inr n ↦ n
            ] in
            let same : makers R b k ≡ without t.undo (makers R b k) = lies k ∙ off_named st 0 st.parts b k (without t.undo (makers R b k)) free in
            subst (λ ps. Vacant (is_active R) (placed_in (restored ps) b k (image R b k)) (without t.undo (makers R b k))) (sym f.restores)
            (subst (λ i. Vacant (is_active R) i (without t.undo (makers R b k))) (sym (old_left st.parts b k (image R b k) free))
            (subst (λ ms. Vacant (is_active R) (image R b k) ms) same (d.vacant k)));
      })
    ]

-- a cleaning

pub home_clean : (present : ℕ → Type 0) (of : ℕ → ℕ → Type 0) (active : ℕ → Bool) (d : ℕ) (cs : List (ℕ × ℕ)) (b : ℕ) (im : ℕ → Slot) (mk : ℕ → List Made)
    → Home present of active im mk → Home present of active (λ k. cond (eqb d b) (clean_slot cs (im k)) (im k)) mk
home_clean present of active d cs b im mk (inl l) = inl (record {
  obj = l.obj;
  here = l.here;
  rows = λ k. elim (eqb d b) as (λ v. RowsIn (of l.obj) (cond v (clean_slot cs (im k)) (im k)) (mk k)) [
    | true ↦ let q = clean_keeps cs (im k) in ((λ e. subst (of l.obj) (sym q.2) ((l.rows k).0 (ap is_empty (sym q.0) ∙ e))), (l.rows k).1)
    | false ↦ l.rows k
  ];
})
home_clean present of active d cs b im mk (inr x) = inr (record {
  absent = x.absent;
  vacant = λ k. elim (eqb d b) as (λ v. Vacant active (cond v (clean_slot cs (im k)) (im k)) (mk k)) [
    | true ↦ record { empty = ap is_empty (clean_keeps cs (im k)).0 ∙ (x.vacant k).empty; settled = (x.vacant k).settled }
    | false ↦ x.vacant k
  ];
})

-- a turn

settled_turn : (R : List Record) (r : Record) (ss : List Step) (ms : List Made) → Turn R r → Every (λ (s : Step). BegunBy (txn_count R) s.by) ss → Every (λ (m : Made). Stands ss m.by m.undo) ms → HeadSettled (is_active R) ms → HeadSettled (is_active (r ∷ R)) ms
settled_turn R r ss [] t b s h = tt
settled_turn R r ss (m ∷ ms) t b s h = done_turn R r m.by t (stands_begun ss m.by m.undo (txn_count R) s.0 b) h

pub home_turn : (present : ℕ → Type 0) (of : ℕ → ℕ → Type 0) (R : List Record) (r : Record) (ss : List Step) (im : ℕ → Slot) (mk : ℕ → List Made) → Turn R r → Every (λ (s : Step). BegunBy (txn_count R) s.by) ss → ((k : ℕ) → Every (λ (m : Made). Stands ss m.by m.undo) (mk k))
    → Home present of (is_active R) im mk → Home present of (is_active (r ∷ R)) im mk
home_turn present of R r ss im mk t b s (inl l) = inl (record { obj = l.obj; here = l.here; rows = l.rows })
home_turn present of R r ss im mk t b s (inr d) = inr (record { absent = d.absent; vacant = λ k. record { empty = (d.vacant k).empty; settled = settled_turn R r ss (mk k) t b (s k) (d.vacant k).settled } })

-- a formatting, an Extend, a Lower

pub home_format : (sh : Shape) (R : List Record) (f : FormatBlockRecord) (of : ℕ → ℕ → Type 0) → FormatAllowed sh R f → Segments sh R → (b : ℕ)
    → Home (λ o. Present sh R o b) of (is_active R) (image R b) (makers R b)
    → Home (λ o. Present sh (FormatBlock f ∷ R) o b) of (is_active R) (λ k. cond (eqb f.dba b) new_slot (image R b k)) (λ k. cond (eqb f.dba b) [] (makers R b k))
home_format sh R f of a s b h =
    elim (cases_Bool (eqb f.dba b)) [
      | inl y ↦ inl (record {
        obj = f.obj;
        here = (a_table sh R f.obj s a.table, subst (λ x. is_in x (data_blocks sh R f.obj) ≡ true) (eqb-true f.dba b y) (in_take f.dba (high_mark R f.obj) (data_blocks sh R f.obj) (format_first sh R f a).0), or_left (eqb f.dba b) _ y);
        rows = λ k. rw y ((λ e. absurd (true≢false e)), tt);
      })
      | inr n ↦ elim h [
        | inl l ↦ inl (record { obj = l.obj; here = (l.here.0, l.here.1, or_right (eqb f.dba b) _ l.here.2); rows = λ k. rw n (l.rows k) })
        | inr d ↦ inr (record {
          absent = λ o p. d.absent o (p.0, p.1, elim (or_cases (eqb f.dba b) (is_formatted sh R b) p.2) [ inl y ↦ absurd (true≢false (sym y ∙ n)) | inr z ↦ z ]);
          vacant = λ k. rw n (d.vacant k);
        })
      ]
    ]

whole_front : (xs : List ℕ) → take (length xs) xs ≡ xs
whole_front [] = refl
whole_front (x ∷ xs) = ap (λ (ys : List ℕ). x ∷ ys) (whole_front xs)

whole_keeps : (sh : Shape) (R : List Record) (e : ExtendRecord) (o b : ℕ) → is_in b (data_blocks sh R o) ≡ true → is_in b (data_blocks sh (Extend e ∷ R) o) ≡ true
whole_keeps sh R e o b h = in_take b (length (data_blocks sh R o)) (data_blocks sh (Extend e ∷ R) o) (extend_keeps sh R e o (length (data_blocks sh R o)) b (ap (is_in b) (whole_front (data_blocks sh R o)) ∙ h))

pub home_extend : (sh : Shape) (R : List Record) (e : ExtendRecord) (of : ℕ → ℕ → Type 0) (active : ℕ → Bool) (im : ℕ → Slot) (mk : ℕ → List Made) → ((o b : ℕ) → IsNumber o → is_in b (data_blocks sh R o) ≡ true → in_extent sh e.extent b ≡ false) → (b : ℕ)
    → Home (λ o. Present sh R o b) of active im mk → Home (λ o. Present sh (Extend e ∷ R) o b) of active im mk
home_extend sh R e of active im mk out b (inl l) = inl (record {
  obj = l.obj;
  here = (l.here.0, whole_keeps sh R e l.obj b l.here.1, and_from _ _ (ap not (out l.obj b l.here.0 l.here.1)) l.here.2);
  rows = l.rows;
})
home_extend sh R e of active im mk out b (inr d) = inr (record {
  absent = λ o p.
      let q = and_parts (not (in_extent sh e.extent b)) (is_formatted sh R b) p.2 in
      elim (extend_data sh R e o b p.1) [
        | inl y ↦ d.absent o (p.0, y, q.1)
        | inr z ↦ true≢false (sym z ∙ not-true (in_extent sh e.extent b) q.0)
      ];
  vacant = d.vacant;
})

-- what is released is vacant

all_in : (p : ℕ → Bool) (xs : List ℕ) (b : ℕ) → list_all p xs ≡ true → is_in b xs ≡ true → p b ≡ true
all_in p [] b a h = absurd (true≢false (sym h))
all_in p (x ∷ xs) b a h =
    let q = and_parts (p x) (list_all p xs) a in
    elim (or_cases (eqb x b) (is_in b xs) h) [ inl y ↦ subst (λ z. p z ≡ true) (eqb-true x b y) q.0 | inr z ↦ all_in p xs b q.1 z ]

all_at : (p : Slot → Bool) (xs : List Slot) (k : ℕ) (d : Slot) → list_all p xs ≡ true → p d ≡ true → p (get_or xs k d) ≡ true
all_at p [] k d a h = h
all_at p (x ∷ xs) zero d a h = (and_parts (p x) (list_all p xs) a).0
all_at p (x ∷ xs) (suc k) d a h = all_at p xs k d (and_parts (p x) (list_all p xs) a).1 h

-- an extent that is vacant, with the block
pub record Released (sh : Shape) (R : List Record) (b : ℕ) : Type 0 where
  pub index : ℕ
  pub extent : ℕ
  pub vacant : is_vacant sh R index extent ≡ true
  pub here : is_in b (extent_data sh index extent) ≡ true

kept_or_vacant : (sh : Shape) (R : List Record) (index : ℕ) (es : List Extent) (b : ℕ) → is_in b (data_of sh index es) ≡ true → (is_in b (data_of sh index (take (kept_length sh R index es) es)) ≡ true) ⊎ Released sh R b
kept_or_vacant sh R index [] b h = inl h
kept_or_vacant sh R index (e ∷ es) b h = go (kept_length sh R (suc index) es) (in_either b (extent_data sh index e.number) (data_of sh (suc index) es) h) (λ k. kept_or_vacant sh R (suc index) es b k)
  where
    go : (n : ℕ) → (is_in b (extent_data sh index e.number) ≡ true) ⊎ (is_in b (data_of sh (suc index) es) ≡ true)
        → (is_in b (data_of sh (suc index) es) ≡ true → (is_in b (data_of sh (suc index) (take n es)) ≡ true) ⊎ Released sh R b)
        → (is_in b (data_of sh index (take (elim n as (λ m. ℕ) [ zero ↦ cond (is_vacant sh R index e.number) 0 1 | suc m ↦ suc (suc m) ]) (e ∷ es))) ≡ true) ⊎ Released sh R b
    go zero (inl y) rest = elim (cases_Bool (is_vacant sh R index e.number)) [
      | inl v ↦ inr (record { index = index; extent = e.number; vacant = v; here = y })
      | inr n ↦ inl (rw n (in_left b (extent_data sh index e.number) _ y))
    ]
    go zero (inr z) rest = elim (rest z) [ inl w ↦ absurd (true≢false (sym w)) | inr r ↦ inr r ]
    go (suc n) (inl y) rest = inl (in_left b (extent_data sh index e.number) _ y)
    go (suc n) (inr z) rest = elim (rest z) [ inl w ↦ inl (in_right b (extent_data sh index e.number) (data_of sh (suc index) (take (suc n) es)) w) | inr r ↦ inr r ]

lower_kept : (sh : Shape) (R : List Record) (es : List Extent) (b : ℕ) → is_in b (data_of sh 0 es) ≡ true → (is_in b (data_of sh 0 (take (suc (kept_length sh R 1 (drop 1 es))) es)) ≡ true) ⊎ Released sh R b
lower_kept sh R [] b h = inl h
lower_kept sh R (e ∷ es) b h =
    elim (in_either b (extent_data sh 0 e.number) (data_of sh 1 es) h) [
      | inl y ↦ inl (in_left b (extent_data sh 0 e.number) _ y)
      | inr z ↦ elim (kept_or_vacant sh R 1 es b z) [ inl w ↦ inl (in_right b (extent_data sh 0 e.number) _ w) | inr r ↦ inr r ]
    ]

pub released_vacant : (sh : Shape) (R : List Record) (b k : ℕ) → LinksIn R → is_formatted sh R b ≡ true → Released sh R b → Vacant (is_active R) (image R b k) (makers R b k)
released_vacant sh R b k l f r =
    let either : (not (is_formatted sh R b) || is_vacant_block R b) ≡ true = all_in (λ c. not (is_formatted sh R c) || is_vacant_block R c) (extent_data sh r.index r.extent) b r.vacant r.here in
    let whole : is_vacant_block R b ≡ true = elim (or_cases (not (is_formatted sh R b)) (is_vacant_block R b) either) [ inl y ↦ absurd (true≢false (sym f ∙ not-true (is_formatted sh R b) y)) | inr z ↦ z ] in
    let here : is_reusable (ended_in R) (image R b k) ≡ true = ap (is_reusable (ended_in R)) (sym (image_is R b k)) ∙ all_at (is_reusable (ended_in R)) (slots_of R b) k new_slot whole refl in
    let q = and_parts (is_empty (image R b k).kind) (writer_has_ended (ended_in R) (image R b k).writer) here in
    record { empty = q.0; settled = settled_head (is_active R) (txn_count R) (standing R) (image R b k) (makers R b k) (l b k) q.1 }

pub home_lower : (sh : Shape) (R : List Record) (l : LowerRecord) (of : ℕ → ℕ → Type 0) → LowerAllowed sh R l → Segments sh R → LinksIn R → (b : ℕ)
    → Home (λ o. Present sh R o b) of (is_active R) (image R b) (makers R b) → Home (λ o. Present sh (Lower l ∷ R) o b) of (is_active R) (image R b) (makers R b)
home_lower sh R l of a s links b (inr d) = inr (record { absent = λ o p. d.absent o (p.0, lower_data sh R l o b p.1, p.2); vacant = d.vacant })
home_lower sh R l of a s links b (inl v) =
    elim (cases_Bool (is_in b (data_blocks sh (Lower l ∷ R) v.obj))) [
      | inl y ↦ inl (record { obj = v.obj; here = (v.here.0, y, v.here.2); rows = v.rows })
      | inr n ↦ inr (record {
        absent = λ o p. let same : o ≡ v.obj = same_table sh R o v.obj b s p.0 v.here.0 (lower_data sh R l o b p.1) v.here.1 in true≢false (sym p.1 ∙ ap (λ x. is_in b (data_blocks sh (Lower l ∷ R) x)) same ∙ n);
        vacant = λ k. released_vacant sh R b k links v.here.2 (released n);
      })
    ]
  where
    released : is_in b (data_blocks sh (Lower l ∷ R) v.obj) ≡ false → Released sh R b
    released n =
        (elim (eqb l.obj v.obj) as (λ w. eqb l.obj v.obj ≡ w → is_in b (data_of sh 0 (cond w (take l.kept (extents_of R v.obj)) (extents_of R v.obj))) ≡ false → Released sh R b) [
          | true ↦ λ e m.
              let same : l.obj ≡ v.obj = eqb-true l.obj v.obj e in
              let kept_is : suc (kept_length sh R 1 (drop 1 (extents_of R v.obj))) ≡ l.kept = subst (λ x. suc (kept_length sh R 1 (drop 1 (extents_of R x))) ≡ l.kept) same (sym a.longest) in
              elim (lower_kept sh R (extents_of R v.obj) b v.here.1) [
                | inl w ↦ absurd (true≢false (sym (subst (λ x. is_in b (data_of sh 0 (take x (extents_of R v.obj))) ≡ true) kept_is w) ∙ m))
                | inr r ↦ r
              ]
          | false ↦ λ e m. absurd (true≢false (sym v.here.1 ∙ m))
        ]) refl n
