-- Records that are added, and records that become stable.
use Rattle.std.proofs.Common.{◌≡◌, ◌⊎◌, inl, inr, ℕ, suc, ◌+◌, ◌-◌, ◌^◌, ◌≤◌, min, List, [], ◌∷◌, ◌++◌, length, refl, sym, ap, subst, ◌∙◌, append_assoc, arith, length-append, Result, Ok, Err, OnOk}
use Rattle.seg_words.specs.Types.{Shape}
use Rattle.disk_model.specs.Types.{Meaning, Leaves, OnlyFile}
use Rattle.disk_model.specs.declared.disk.File.TheVariants.{Log}
use Rattle.disk_model.proofs.Lemmas.{weaker, started, only_weaker, put_content}
use Rattle.log_frame.specs.Types.{IsReady, Leads, IsLog, WithOrWithout}
use Rattle.log_frame.specs.declared.fault.FrameFault.{FrameFault}
use Rattle.log_survival.specs.declared.acknowledged.Acknowledged.{Acknowledged}
use Rattle.redo_record.specs.declared.record.Record.{Record}
use Rattle.redo_record.specs.Spelling.{spelling}
use Rattle.redo_record.specs.Spelled.{HasSpelling}
use Rattle.redo_log.specs.Kept.{Kept, HasRecords, HasList, Stays, Holds, AreSpelled, spelled, last_number, with_group}
use Rattle.redo_log.specs.Lasting.{Lasts, GroupOrNone}
use Rattle.redo_log.proofs.Walking.{holds_more}

pub one_more : (groups : List (List ℕ)) (R0 R : List Record) (r : Record) (old new : Kept) → HasList groups R0 R old → HasSpelling r → new.stable ≡ old.stable → new.count ≡ min (old.count + 1) (2 ^ 64 - 1)
    → new.waiting.bytes ≡ old.waiting.bytes ++ spelling r → HasList groups R0 (r ∷ R) new
one_more groups R0 R r old new list s stable count bytes =
    let h = list.has in
    record {
      has = record {
        newer = r ∷ h.newer;
        older = h.older;
        split = ap (λ (x : List Record). r ∷ x) h.split;
        stable = stable ∙ h.stable;
        count = omega (arith, count, h.count);
        bytes = bytes ∙ ap (λ (b : List ℕ). b ++ spelling r) h.bytes;
        spelled = (h.spelled, s);
      };
      holds = list.holds;
    }

pub two_more : (groups : List (List ℕ)) (R0 R : List Record) (a b : Record) (old new : Kept) → HasList groups R0 R old → HasSpelling a → HasSpelling b → new.stable ≡ old.stable → new.count ≡ min (old.count + 2) (2 ^ 64 - 1)
    → new.waiting.bytes ≡ old.waiting.bytes ++ (spelling a ++ spelling b) → HasList groups R0 (b ∷ a ∷ R) new
two_more groups R0 R a b old new list s t stable count bytes =
    let h = list.has in
    record {
      has = record {
        newer = b ∷ a ∷ h.newer;
        older = h.older;
        split = ap (λ (x : List Record). b ∷ a ∷ x) h.split;
        stable = stable ∙ h.stable;
        count = omega (arith, count, h.count);
        bytes = bytes ∙ ap (λ (x : List ℕ). x ++ (spelling a ++ spelling b)) h.bytes ∙ sym (append_assoc (spelled h.newer) (spelling a) (spelling b));
        spelled = ((h.spelled, s), t);
      };
      holds = list.holds;
    }

pub stays : (old new : Kept) → new.end ≡ old.end → new.stable ≡ old.stable → new.count ≡ old.count → new.waiting.bytes ≡ old.waiting.bytes → old.waiting.room ≤ new.waiting.room → Stays old new
stays old new end stable count bytes room = record { end = end; stable = stable; count = count; bytes = bytes; room = room }

-- what waited is a group
pub all_stable : (groups : List (List ℕ)) (R0 R : List Record) (bytes : List ℕ) (old new : Kept) → HasList groups R0 R old → bytes ≡ old.waiting.bytes → new.stable ≡ old.count → new.count ≡ old.count → new.waiting.bytes ≡ [] → HasList (groups ++ bytes ∷ []) R0 R new
all_stable groups R0 R payload old new list same stable count bytes =
    let h = list.has in
    let holds = holds_more groups R0 h.older h.newer payload list.holds (same ∙ h.bytes) h.spelled in
    record {
      has = record { newer = []; older = R; split = refl; stable = stable ∙ h.count; count = count ∙ h.count; bytes = bytes; spelled = tt };
      holds = subst (Holds (groups ++ payload ∷ []) R0) (sym h.split) holds;
    }

none_newer : (newer : List Record) → spelled newer ≡ [] → newer ≡ []
none_newer [] h = refl
none_newer (r ∷ R) h = absurd (omega (arith, ap (λ (x : List ℕ). length x) h, length-append (spelled R) (spelling r)))

-- nothing waited
pub none_waits : (groups : List (List ℕ)) (R0 R : List Record) (old new : Kept) → HasList groups R0 R old → old.waiting.bytes ≡ [] → new.stable ≡ old.count → new.count ≡ old.count → new.waiting.bytes ≡ old.waiting.bytes → HasList (with_group groups old.waiting.bytes) R0 R new
none_waits groups R0 R old new list none stable count bytes =
    let h = list.has in
    let nobody = none_newer h.newer (sym h.bytes ∙ none) in
    let same : R ≡ h.older = h.split ∙ ap (λ (l : List Record). l ++ h.older) nobody in
    subst (λ (b : List ℕ). HasList (with_group groups b) R0 R new) (sym none) (record {
      has = record { newer = []; older = R; split = refl; stable = stable ∙ h.count; count = count ∙ h.count; bytes = bytes ∙ none; spelled = tt };
      holds = subst (Holds groups R0) (sym same) list.holds;
    })

-- groups with one that isn't empty, or with none
pub with_some : (groups : List (List ℕ)) (bytes : List ℕ) → 1 ≤ length bytes → with_group groups bytes ≡ groups ++ bytes ∷ []
with_some groups [] h = absurd (omega (arith, h))
with_some groups (b ∷ bytes) h = refl

pub with_none : (groups : List (List ℕ)) (bytes : List ℕ) → bytes ≡ [] → with_group groups bytes ≡ groups
with_none groups bytes none = ap (with_group groups) none

module _ {D : Type 0} (meaning : Meaning D) (shape : Shape) (groups : List (List ℕ)) (bytes : List ℕ) where
  pub leaves_some : (old new : D) → 1 ≤ length bytes → Leaves meaning old new (OnlyFile meaning old Log (WithOrWithout shape groups bytes)) → Leaves meaning old new (OnlyFile meaning old Log (GroupOrNone shape groups bytes))
  leaves_some old new some leaves =
      subst (λ (l : List (List ℕ)). Leaves meaning old new (OnlyFile meaning old Log (λ (file : List ℕ). IsLog shape groups file ⊎ IsLog shape l file))) (sym (with_some groups bytes some)) leaves

  pub leaves_none : (disk : D) (end : ℕ) → IsReady meaning disk shape groups end → Leaves meaning disk disk (OnlyFile meaning disk Log (GroupOrNone shape groups bytes))
  leaves_none disk end ready = started meaning disk (OnlyFile meaning disk Log (GroupOrNone shape groups bytes)) (λ image is. record { was = image; before = is; rest = put_content Log image; holds = inl (subst (IsLog shape groups) (sym (ready.settled.durable image is)) ready.log) })

-- what two encodings added
pub pair_bytes : (a b old inside cleared first second slice new : List ℕ) → old ≡ inside → cleared ≡ [] → first ≡ cleared ++ a → second ≡ first ++ b → slice ≡ second → new ≡ inside ++ slice → new ≡ old ++ (a ++ b)
pair_bytes a b old inside cleared first second slice new same none one two whole is =
    is ∙ ap (λ (l : List ℕ). l ++ slice) (sym same) ∙ ap (λ (l : List ℕ). old ++ l) (whole ∙ two ∙ ap (λ (l : List ℕ). l ++ b) (one ∙ ap (λ (l : List ℕ). l ++ a) none))

-- a flush where anything waits
module _ {D : Type 0} (meaning : Meaning D) (shape : Shape) (groups : List (List ℕ)) (bytes : List ℕ) (some : 1 ≤ length bytes) where
  pub lasts_some : (since : ℕ) (acknowledged : List Acknowledged) (disk : D) → Lasts meaning since shape (groups ++ bytes ∷ []) acknowledged disk → Lasts meaning since shape (with_group groups bytes) acknowledged disk
  lasts_some since acknowledged disk lasts = subst (λ (l : List (List ℕ)). Lasts meaning since shape l acknowledged disk) (sym (with_some groups bytes some)) lasts

  pub ready_some : (old disk : D) (end : ℕ) → Leads meaning old disk shape (groups ++ bytes ∷ []) end → IsReady meaning disk shape (with_group groups bytes) end
  ready_some old disk end leads = subst (λ (l : List (List ℕ)). IsReady meaning disk shape l end) (sym (with_some groups bytes some)) leads.ready

pub list_some : (groups : List (List ℕ)) (bytes : List ℕ) (R0 R : List Record) (new : Kept) → 1 ≤ length bytes → HasList (groups ++ bytes ∷ []) R0 R new → HasList (with_group groups bytes) R0 R new
list_some groups bytes R0 R new some list = subst (λ (l : List (List ℕ)). HasList l R0 R new) (sym (with_some groups bytes some)) list

-- and where nothing does
pub lasts_none : {D : Type 0} (meaning : Meaning D) (since : ℕ) (shape : Shape) (groups : List (List ℕ)) (bytes : List ℕ) (acknowledged : List Acknowledged) (disk : D) → bytes ≡ [] → Lasts meaning since shape groups acknowledged disk → Lasts meaning since shape (with_group groups bytes) acknowledged disk
lasts_none meaning since shape groups bytes acknowledged disk none lasts = subst (λ (l : List (List ℕ)). Lasts meaning since shape l acknowledged disk) (sym (with_none groups bytes none)) lasts

pub ready_none : {D : Type 0} (meaning : Meaning D) (shape : Shape) (groups : List (List ℕ)) (bytes : List ℕ) (disk : D) (end : ℕ) → bytes ≡ [] → IsReady meaning disk shape groups end → IsReady meaning disk shape (with_group groups bytes) end
ready_none meaning shape groups bytes disk end none ready = subst (λ (l : List (List ℕ)). IsReady meaning disk shape l end) (sym (with_none groups bytes none)) ready

-- what one added
pub one_bytes : (a old inside cleared first slice new : List ℕ) → old ≡ inside → cleared ≡ [] → first ≡ cleared ++ a → slice ≡ first → new ≡ inside ++ slice → new ≡ old ++ a
one_bytes a old inside cleared first slice new same none one whole is =
    is ∙ ap (λ (l : List ℕ). l ++ slice) (sym same) ∙ ap (λ (l : List ℕ). old ++ l) (whole ∙ one ∙ ap (λ (l : List ℕ). l ++ a) none)
