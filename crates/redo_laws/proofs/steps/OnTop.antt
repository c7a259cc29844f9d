-- An active transaction's steps lie on top of each slot that they name, the newest first.
use Rattle.std.proofs.Common.{◌≡◌, ℕ, suc, Bool, true, false, cond, not, ◌&&◌, ◌||◌, eqb, List, [], ◌∷◌, refl, sym, ◌∙◌, ap, subst, inl, inr, eqb-true, true≢false, eq-eqb}
use Rattle.seg_words.proofs.Lemmas.{cond-false, cases_Bool, and_parts, and_from, or_parts}
use Rattle.seg_words.specs.Types.{UndoAddr, By}
use Rattle.redo_model.specs.Records.{RowPart}
use Rattle.redo_model.specs.Model.{Step, part_addr, is_addr, is_place, Made, made_by, without}
use Rattle.redo_laws.proofs.lists.Every.{Every, every-map, filter-all, filter-swap}

abbrev pub is_named : List RowPart → ℕ → ℕ → Bool
is_named [] b k = false
is_named (p ∷ ps) b k = is_place p.dba p.slot b k || is_named ps b k

-- addresses

pub addr_self : (a : UndoAddr) → is_addr a a ≡ true
addr_self a = and_from _ _ (eq-eqb a.block a.block refl) (and_from _ _ (eq-eqb a.seq a.seq refl) (eq-eqb a.nth a.nth refl))

pub addr_same : (a b : UndoAddr) → is_addr a b ≡ true → a ≡ b
addr_same a b h =
    let p = and_parts (eqb a.block b.block) (eqb a.seq b.seq && eqb a.nth b.nth) h in
    let q = and_parts (eqb a.seq b.seq) (eqb a.nth b.nth) p.1 in
    let x = eqb-true a.block b.block p.0 in
    let y = eqb-true a.seq b.seq q.0 in
    let z = eqb-true a.nth b.nth q.1 in
    λ i. record { block = x i; seq = y i; nth = z i }

pub addr_sym : (a b : UndoAddr) → is_addr a b ≡ false → is_addr b a ≡ false
addr_sym a b h = elim (cases_Bool (is_addr b a)) [ inl e ↦ absurd (true≢false (sym (addr_self a) ∙ ap (is_addr a) (sym (addr_same b a e)) ∙ h)) | inr e ↦ e ]

-- what a step adds to a slot, and what stays without another

pub off_named : (st : Step) (i : ℕ) (ps : List RowPart) (b k : ℕ) (ms : List Made) → is_named ps b k ≡ false → made_by st i ps b k ms ≡ ms
off_named st i [] b k ms h = refl
off_named st i (p ∷ ps) b k ms h = let q = or_parts (is_place p.dba p.slot b k) (is_named ps b k) h in cond-false _ _ _ q.0 ∙ off_named st (suc i) ps b k ms q.1

-- the newest of the makers, where the step names the slot
pub record HeadIs (st : Step) (xs ms : List Made) : Type 0 where
  pub made : Made
  pub list : xs ≡ made ∷ ms
  pub by_is : made.by ≡ st.by
  pub undo_is : made.undo ≡ st.undo

pub head_named : (st : Step) (i : ℕ) (ps : List RowPart) (b k : ℕ) (ms : List Made) → is_named ps b k ≡ true → HeadIs st (made_by st i ps b k ms) ms
head_named st i [] b k ms h = absurd (true≢false (sym h))
head_named st i (p ∷ ps) b k ms h =
    (elim (is_place p.dba p.slot b k) as (λ v. (v || is_named ps b k) ≡ true → HeadIs st (cond v (record { by = st.by; undo = st.undo; part = part_addr st.undo i; old = p.old } ∷ ms) (made_by st (suc i) ps b k ms)) ms) [
      | true ↦ λ _. record { made = record { by = st.by; undo = st.undo; part = part_addr st.undo i; old = p.old }; list = refl; by_is = refl; undo_is = refl }
      | false ↦ λ e. head_named st (suc i) ps b k ms e
    ]) h

pub without-made : (a : UndoAddr) (st : Step) (i : ℕ) (ps : List RowPart) (b k : ℕ) (ms : List Made) → is_addr st.undo a ≡ false → without a (made_by st i ps b k ms) ≡ made_by st i ps b k (without a ms)
without-made a st i [] b k ms h = refl
without-made a st i (p ∷ ps) b k ms h =
    elim (is_place p.dba p.slot b k) as (λ v. without a (cond v (record { by = st.by; undo = st.undo; part = part_addr st.undo i; old = p.old } ∷ ms) (made_by st (suc i) ps b k ms)) ≡ cond v (record { by = st.by; undo = st.undo; part = part_addr st.undo i; old = p.old } ∷ without a ms) (made_by st (suc i) ps b k (without a ms))) [
      | true ↦ rw h refl
      | false ↦ without-made a st (suc i) ps b k ms h
    ]

pub without_own : (st : Step) (i : ℕ) (ps : List RowPart) (b k : ℕ) (ms : List Made) → without st.undo (made_by st i ps b k ms) ≡ without st.undo ms
without_own st i [] b k ms = refl
without_own st i (p ∷ ps) b k ms =
    elim (is_place p.dba p.slot b k) as (λ v. without st.undo (cond v (record { by = st.by; undo = st.undo; part = part_addr st.undo i; old = p.old } ∷ ms) (made_by st (suc i) ps b k ms)) ≡ without st.undo ms) [
      | true ↦ rw (addr_self st.undo) refl
      | false ↦ without_own st (suc i) ps b k ms
    ]

pub off_none : (a : UndoAddr) (ms : List Made) → Every (λ (m : Made). is_addr m.undo a ≡ false) ms → without a ms ≡ ms
off_none a ms h = filter-all _ ms (every-map _ _ ms (λ m e. ap not e) h)

-- the steps of a transaction lie on top of the makers of each slot
abbrev pub OnTop : List Step → (ℕ → ℕ → List Made) → Type 0
OnTop [] ms = Unit {0}
OnTop (st ∷ us) ms = ((b k : ℕ) → ms b k ≡ made_by st 0 st.parts b k (without st.undo (ms b k))) × OnTop us (λ b k. without st.undo (ms b k))

pub on_top_same : (us : List Step) (ms ns : ℕ → ℕ → List Made) → ((b k : ℕ) → ms b k ≡ ns b k) → OnTop us ms → OnTop us ns
on_top_same [] ms ns e h = tt
on_top_same (st ∷ us) ms ns e h = (
  λ b k. sym (e b k) ∙ h.0 b k ∙ ap (λ xs. made_by st 0 st.parts b k (without st.undo xs)) (e b k),
  on_top_same us _ _ (λ b k. ap (without st.undo) (e b k)) h.1,
)

-- another's step, on slots where the transaction isn't the newest maker
pub on_top_adds : (us : List Step) (u : ℕ) (st : Step) (ms : ℕ → ℕ → List Made)
    → Every (λ (s : Step). (s.by ≡ By u) × (is_addr s.undo st.undo ≡ false)) us
    → ((b k : ℕ) (m : Made) (rest : List Made) → is_named st.parts b k ≡ true → ms b k ≡ m ∷ rest → m.by ≡ By u → ⊥)
    → OnTop us ms → OnTop us (λ b k. made_by st 0 st.parts b k (ms b k))
on_top_adds [] u st ms own free h = tt
on_top_adds (s ∷ us) u st ms own free h =
    let a = s.undo in
    let other : is_addr st.undo a ≡ false = addr_sym s.undo st.undo own.0.1 in
    -- where st names the slot, s doesn't
    let clear : (b k : ℕ) → is_named st.parts b k ≡ true → is_named s.parts b k ≡ false = λ b k n.
    elim (cases_Bool (is_named s.parts b k)) [
      | inl y ↦ let w = head_named s 0 s.parts b k (without a (ms b k)) y in absurd (free b k w.made (without a (ms b k)) n (h.0 b k ∙ w.list) (w.by_is ∙ own.0.0))
      | inr f ↦ f
    ] in
    let apart : (b k : ℕ) → is_named st.parts b k ≡ true → ms b k ≡ without a (ms b k) = λ b k n. h.0 b k ∙ off_named s 0 s.parts b k (without a (ms b k)) (clear b k n) in (
      λ b k. elim (cases_Bool (is_named st.parts b k)) [
        | inl y ↦ sym (off_named s 0 s.parts b k (without a (made_by st 0 st.parts b k (ms b k))) (clear b k y) ∙ without-made a st 0 st.parts b k (ms b k) other ∙ ap (made_by st 0 st.parts b k) (sym (apart b k y)))
        | inr f ↦ let e = off_named st 0 st.parts b k (ms b k) f in e ∙ h.0 b k ∙ ap (λ xs. made_by s 0 s.parts b k (without a xs)) (sym e)
      ],
      on_top_same us _ _ (λ b k. sym (without-made a st 0 st.parts b k (ms b k) other))
          (on_top_adds us u st (λ b k. without a (ms b k)) own.1 (λ b k m rest n e. free b k m rest n (apart b k n ∙ e)) h.1),
    )

-- what another takes back
pub on_top_without : (us : List Step) (a : UndoAddr) (ms : ℕ → ℕ → List Made) → Every (λ (s : Step). is_addr s.undo a ≡ false) us → OnTop us ms → OnTop us (λ b k. without a (ms b k))
on_top_without [] a ms other h = tt
on_top_without (s ∷ us) a ms other h = (
  λ b k. ap (without a) (h.0 b k) ∙ without-made a s 0 s.parts b k (without s.undo (ms b k)) other.0 ∙ ap (made_by s 0 s.parts b k) (filter-swap _ _ (ms b k)),
  on_top_same us (λ b k. without a (without s.undo (ms b k))) (λ b k. without s.undo (without a (ms b k))) (λ b k. filter-swap _ _ (ms b k)) (on_top_without us a (λ b k. without s.undo (ms b k)) other.1 h.1),
)

-- a formatting of a block of which it isn't the newest maker
pub on_top_formats : (us : List Step) (u d : ℕ) (ms : ℕ → ℕ → List Made)
    → Every (λ (s : Step). s.by ≡ By u) us
    → ((k : ℕ) (m : Made) (rest : List Made) → ms d k ≡ m ∷ rest → m.by ≡ By u → ⊥)
    → OnTop us ms → OnTop us (λ b k. cond (eqb d b) [] (ms b k))
on_top_formats [] u d ms own free h = tt
on_top_formats (s ∷ us) u d ms own free h =
    let a = s.undo in
    let clear : (k : ℕ) → is_named s.parts d k ≡ false = λ k.
    elim (cases_Bool (is_named s.parts d k)) [
      | inl y ↦ let w = head_named s 0 s.parts d k (without a (ms d k)) y in absurd (free k w.made (without a (ms d k)) (h.0 d k ∙ w.list) (w.by_is ∙ own.0))
      | inr f ↦ f
    ] in (
      λ b k. (elim (eqb d b) as (λ v. eqb d b ≡ v → cond v [] (ms b k) ≡ made_by s 0 s.parts b k (without a (cond v [] (ms b k)))) [
        | true ↦ λ e. sym (off_named s 0 s.parts b k [] (subst (λ x. is_named s.parts x k ≡ false) (eqb-true d b e) (clear k)))
        | false ↦ λ e. h.0 b k
      ]) refl,
      on_top_same us (λ b k. cond (eqb d b) [] (without a (ms b k))) (λ b k. without a (cond (eqb d b) [] (ms b k)))
          (λ b k. elim (eqb d b) as (λ v. cond v [] (without a (ms b k)) ≡ without a (cond v [] (ms b k))) [ true ↦ refl | false ↦ refl ])
          (on_top_formats us u d (λ b k. without a (ms b k)) own.1 (λ k m rest e. free k m rest (h.0 d k ∙ off_named s 0 s.parts d k (without a (ms d k)) (clear k) ∙ e)) h.1),
    )
