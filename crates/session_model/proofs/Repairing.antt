-- A repair from its list to its entry.
use Rattle.std.proofs.Common.{◌≡◌, ℕ, suc, ◌≤◌, Bool, true, false, cond, not, eqb, List, [], ◌∷◌, ◌++◌, length, refl, sym, ◌∙◌, ap, ap₂, subst, le_refl, append_assoc, append-nil, true≢false}
use Rattle.std.specs.Prelude.{◌||◌}
use Rattle.seg_words.proofs.Lemmas.{or_cases}
use Rattle.seg_words.specs.Types.{Shape, class_code}
use Rattle.redo_model.specs.Records.{Record, Class, Clean}
use Rattle.redo_model.specs.Model.{prefix, Extends, kept_class, class_of_block, pctfree_of}
use Rattle.redo_model.specs.Lists.{same, more}
use Rattle.redo_laws.proofs.lists.Prefixes.{prefix_all, prefix_first, extends_length}
use Rattle.redo_laws.specs.Among.{is_in}
use Rattle.redo_laws.specs.Scan.{scan_list}
use Rattle.scan_laws.specs.Staying.{is_released_since}
use Rattle.session_laws.specs.Sessions.{own_of, own_rows, own_begins}
use Rattle.history_model.specs.declared.history.Settled.{Settled}
use Rattle.history_model.specs.Spans.{Span}
use Rattle.history_model.specs.SoFar.{IsIdle}
use Rattle.history_model.specs.TableMeans.{Settles, settles_nothing, settles_clean, settles_class, settles_both, IsSettled, AreSettled, settled_none, settled_one, settled_past, count_changed}
use Rattle.history_laws.specs.Working.{later}
use Rattle.session_model.specs.Repairs.{Repairs, repairs_none, repairs_one, repairs_past, RepairsBegin, SettlesNext, settled_now, is_changed, counted, RepairsSettle, RepairsPass, RepairsMean, LeftAreListed}
use Rattle.session_model.proofs.Keeping.{repairs_later, is_same_class, count_more, count_later}

-- ---- it begins

pub repairs_begin : RepairsBegin
repairs_begin sh x name o b t = record {
  table = t;
  idle = record { own = ap (λ (R : List Record). own_of R x.session) b; rows = ap (λ (R : List Record). own_rows R x.session) b; begins = ap (λ (R : List Record). own_begins R x.session) b };
  reached = length x.begun;
  within = subst (λ (R : List Record). length x.begun ≤ length R) (sym b) (le_refl (length x.begun));
  each = repairs_none;
  count = refl;
}

-- ---- a block is settled

settles_extends : (b : ℕ) (Q R : List Record) → Settles b Q R → Extends Q R
settles_extends b Q _ settles_nothing = same
settles_extends b Q _ (settles_clean c e) = more (Clean c) same
settles_extends b Q _ (settles_class k e) = more (Class k) same
settles_extends b Q _ (settles_both c k e f) = more (Class k) (more (Clean c) same)

settles_idle : (x : Span) (b : ℕ) (R : List Record) → Settles b x.ended R → IsIdle x → IsIdle (later x R)
settles_idle x b _ settles_nothing h = record { own = h.own; rows = h.rows; begins = h.begins }
settles_idle x b _ (settles_clean c e) h = record { own = h.own; rows = h.rows; begins = h.begins }
settles_idle x b _ (settles_class k e) h = record { own = h.own; rows = h.rows; begins = h.begins }
settles_idle x b _ (settles_both c k e f) h = record { own = h.own; rows = h.rows; begins = h.begins }

whole : (R : List Record) → prefix R (length R) ≡ R
whole R = prefix_all R (length R) (le_refl (length R))

settled_is : (sh : Shape) (x : Span) (o n b : ℕ) (R : List Record) → n ≤ length x.ended → SettlesNext sh x o b R → IsSettled sh x.begun R o n b (settled_now x.ended R b)
settled_is sh x o n b R l h =
    let e = settles_extends b x.ended R h.adds in
    let was : prefix R (length x.ended) ≡ x.ended = prefix_first x.ended R e in
    record {
      block = refl;
      order = l;
      grows = extends_length x.ended R e;
      within = le_refl (length R);
      there = subst (λ (z : List Record). is_released_since sh (length x.begun) z o b ≡ false) (sym was) h.there;
      adds = subst (λ (z : List Record). Settles b z (prefix R (length R))) (sym was) (subst (λ (z : List Record). Settles b x.ended z) (sym (whole R)) h.adds);
      exact = subst (λ (z : List Record). kept_class z b ≡ class_of_block z (pctfree_of z o) b) (sym (whole R)) h.exact;
    }

-- it is counted where its kept class is another one now
counts_one : (y : Bool) (n : ℕ) → counted (not y) n ≡ cond y n (suc n)
counts_one true n = refl
counts_one false n = refl

count_now : (sh : Shape) (x : Span) (name : List ℕ) (o n : ℕ) (left : List ℕ) (ss : List Settled) (changed b : ℕ) (R : List Record) → Settles b x.ended R → Repairs sh x.begun x.ended o (scan_list sh x.begun o) n left ss → changed ≡ count_changed x.ended ss
    → counted (is_changed x.ended R b) changed ≡ count_changed R (ss ++ settled_now x.ended R b ∷ [])
count_now sh x name o n left ss changed b R adds r c =
    let e = settles_extends b x.ended R adds in
    let s = settled_now x.ended R b in
    let same_now : is_same_class R s ≡ eqb (class_code (kept_class x.ended b)) (class_code (kept_class R b)) = ap₂ (λ (P S : List Record). eqb (class_code (kept_class P b)) (class_code (kept_class S b))) (prefix_first x.ended R e) (whole R) in
    counts_one (eqb (class_code (kept_class x.ended b)) (class_code (kept_class R b))) changed
    ∙ (ap₂ (λ (v : Bool) (m : ℕ). cond v m (suc m)) (sym same_now) (c ∙ sym (count_later sh x.begun x.ended R o (scan_list sh x.begun o) n left ss e r)) ∙ sym (count_more R ss s))

pub repairs_settle : RepairsSettle
repairs_settle sh x name k b bs R left h s =
    let e = settles_extends b x.ended R h.adds in
    let each = subst (λ (z : List ℕ). Repairs sh x.begun R k.obj (scan_list sh x.begun k.obj) s.reached z k.settled) left (repairs_later sh x.begun x.ended R k.obj (scan_list sh x.begun k.obj) s.reached k.left k.settled e s.each) in
    record {
      table = s.table;
      idle = settles_idle x b R h.adds s.idle;
      reached = length R;
      within = le_refl (length R);
      each = repairs_one s.reached (length R) b bs (settled_now x.ended R b) k.settled (k.settled ++ settled_now x.ended R b ∷ []) refl refl (settled_is sh x k.obj s.reached b R s.within h) each;
      count = count_now sh x name k.obj s.reached k.left k.settled k.changed b R h.adds s.each s.count;
    }

-- ---- or it was released

pub repairs_pass : RepairsPass
repairs_pass sh x name k b bs left gone s = record {
  table = s.table;
  idle = s.idle;
  reached = length x.ended;
  within = le_refl (length x.ended);
  each = repairs_past s.reached (length x.ended) b bs k.settled (record {
    order = s.within;
    within = le_refl (length x.ended);
    released = subst (λ (z : List Record). is_released_since sh (length x.begun) z k.obj b ≡ true) (sym (whole x.ended)) gone;
  }) (subst (λ (z : List ℕ). Repairs sh x.begun x.ended k.obj (scan_list sh x.begun k.obj) s.reached z k.settled) left s.each);
  count = s.count;
}

-- ---- which are left

further : (a b : ℕ) (bs : List ℕ) → is_in b bs ≡ true → is_in b (a ∷ bs) ≡ true
further a b bs i = ap (λ (v : Bool). eqb a b || v) i ∙ or_true (eqb a b)
  where
    or_true : (v : Bool) → v || true ≡ true
    or_true true = refl
    or_true false = refl

pub left_are_listed : LeftAreListed
left_are_listed sh B E o all n left ss repairs_none b i = i
left_are_listed sh B E o all m bs ts (repairs_one n k a cs s ss us p q h r) b i = left_are_listed sh B E o all n (a ∷ bs) ss r b (further a b bs i)
left_are_listed sh B E o all m bs ss (repairs_past n k a cs us h r) b i = left_are_listed sh B E o all n (a ∷ bs) ss r b (further a b bs i)

-- ---- at its end

all_settled : (sh : Shape) (B E : List Record) (o : ℕ) (all : List ℕ) (n : ℕ) (left : List ℕ) (ss rest : List Settled) → Repairs sh B E o all n left ss → AreSettled sh B E o n left rest → AreSettled sh B E o (length B) all (ss ++ rest)
all_settled sh B E o all n left ss rest repairs_none a = a
all_settled sh B E o all m bs ts rest (repairs_one n k b cs s ss us p q h r) a =
    subst (λ (z : List Settled). AreSettled sh B E o (length B) all (z ++ rest)) (sym q)
    (subst (AreSettled sh B E o (length B) all) (sym (append_assoc ss (s ∷ []) rest))
    (all_settled sh B E o all n (b ∷ bs) ss (s ∷ rest) r (settled_one n b bs s rest h (subst (λ (z : ℕ). AreSettled sh B E o z bs rest) p a))))
all_settled sh B E o all m bs ss rest (repairs_past n k b cs us h r) a = all_settled sh B E o all n (b ∷ bs) ss rest r (settled_past n m b bs rest h a)

pub repairs_mean : RepairsMean
repairs_mean sh x name k left s = record {
  obj = k.obj;
  table = s.table;
  each = subst (AreSettled sh x.begun x.ended k.obj (length x.begun) (scan_list sh x.begun k.obj)) (append-nil k.settled)
      (all_settled sh x.begun x.ended k.obj (scan_list sh x.begun k.obj) s.reached [] k.settled [] (subst (λ (z : List ℕ). Repairs sh x.begun x.ended k.obj (scan_list sh x.begun k.obj) s.reached z k.settled) left s.each) (settled_none s.reached));
  count = s.count;
}
