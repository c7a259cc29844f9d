-- What each call answers on the log of a store.
use Rattle.std.proofs.Common.{◌≡◌, ℕ, ◌+◌, List, [], ◌∷◌, ◌++◌, length, refl, sym, ◌∙◌, ap, subst, Option, Some, None, Result, Ok, Err}
use Rattle.seg_words.specs.Types.{Shape, FIRST_GATE}
use Rattle.disk_model.specs.Types.{Files, Meaning, Untouched, IsSettled}
use Rattle.disk_model.specs.declared.disk.File.TheVariants.{Log}
use Rattle.log_frame.specs.Types.{frames, group_of, group_found, Walks, wrong, IsHeadFound, IsOpening, IsGroupFound, Answers, AnswersInMemory, IsFirst, IsLog, IsReady, Group, FrameFault, DeviceFault, NotOpen, BadFrame, NoMemory, GROUP_HEAD_SIZE}
use Rattle.log_frame.proofs.Laws.{formatted, head_is, walks_from, walks_once}

pub shape_answer : (shape : Shape) (groups : List (List ℕ)) (bytes : List ℕ) (result : Result Shape FrameFault) → IsLog shape groups bytes → IsHeadFound bytes result → Answers result (λ answer. answer ≡ shape)
shape_answer shape groups bytes (Ok answer) log is = cc (is.1, head_is shape groups bytes log)
shape_answer shape groups bytes (Err DeviceFault) log is = tt
shape_answer shape groups bytes (Err NotOpen) log is = absurd (cc (is, formatted shape groups bytes log))
shape_answer shape groups bytes (Err (BadFrame offset seen)) log is = absurd (cc (is.1, head_is shape groups bytes log))
shape_answer shape groups bytes (Err NoMemory) log is = is

pub open_answer : (shape : Shape) (before after : List (List ℕ)) (bytes : List ℕ) (from : ℕ) (result : Result ℕ FrameFault) → IsLog shape (before ++ after) bytes → from ≡ FIRST_GATE + length (frames before) → IsOpening bytes from result
    → Answers result (λ end. FIRST_GATE + length (frames (before ++ after)) ≡ end)
open_answer shape before after bytes from (Ok end) log place is =
    let once = walks_once is.1.groups after bytes from (Ok end) (Ok (FIRST_GATE + length (frames (before ++ after)))) is.1.walks (walks_from shape before after bytes from log place) in
    cc (once.1)
open_answer shape before after bytes from (Err DeviceFault) log place is = tt
open_answer shape before after bytes from (Err NotOpen) log place is = absurd (cc (is, formatted shape (before ++ after) bytes log))
open_answer shape before after bytes from (Err (BadFrame offset seen)) log place is =
    let once = walks_once is.1.groups after bytes from (Err (wrong offset seen)) (Ok (FIRST_GATE + length (frames (before ++ after)))) is.1.walks (walks_from shape before after bytes from log place) in
    absurd (cc (once.1))
open_answer shape before after bytes from (Err NoMemory) log place is = is

-- a settled log that stays is ready
pub ready_after : {D : Type 0} (meaning : Meaning D) (old new : D) (shape : Shape) (groups : List (List ℕ)) (result : Result ℕ FrameFault) → IsSettled meaning old Log → Untouched meaning old new → IsLog shape groups (meaning.files old).log_bytes
    → Answers result (λ end. FIRST_GATE + length (frames groups) ≡ end) → Answers result (λ end. IsReady meaning new shape groups end)
ready_after meaning old new shape groups (Ok end) settled untouched log answer =
    let same = ap (λ (f : Files). f.log_bytes) (untouched.files settled.told) in
    record {
      settled = record { told = untouched.told.1 settled.told; durable = λ image is. settled.durable image ((untouched.images image).0 is) ∙ sym same };
      log = subst (IsLog shape groups) (sym same) log;
      at_end = answer;
    }
ready_after meaning old new shape groups (Err DeviceFault) settled untouched log answer = tt
ready_after meaning old new shape groups (Err NotOpen) settled untouched log answer = answer
ready_after meaning old new shape groups (Err (BadFrame offset seen)) settled untouched log answer = answer
ready_after meaning old new shape groups (Err NoMemory) settled untouched log answer = answer

-- the group at a gate
found_first : (after : List (List ℕ)) (bytes : List ℕ) (at end : ℕ) → Walks bytes at after (Ok end) → (group : Option Group) × (group_found bytes at ≡ Ok group) × IsFirst after at group
found_first [] bytes at end walks = (None, ap (group_of bytes at) walks.0, refl)
found_first (g ∷ groups) bytes at end walks =
    let size = length g in
    let made : List ℕ → Group = λ payload. record { payload = payload; next = at + GROUP_HEAD_SIZE + size } in
    (Some (made g), ap (group_of bytes at) walks.0 ∙ ap (λ (p : List ℕ). Ok (Some (made p))) walks.1, refl)

first_of_answer : (after : List (List ℕ)) (at : ℕ) (a b : Option Group) → a ≡ b → IsFirst after at a → IsFirst after at b
first_of_answer after at a b same is = subst (IsFirst after at) same is

pub group_answer : (shape : Shape) (before after : List (List ℕ)) (bytes : List ℕ) (at : ℕ) (result : Result (Option Group) FrameFault) → IsLog shape (before ++ after) bytes → at ≡ FIRST_GATE + length (frames before) → IsGroupFound (group_found bytes at) result
    → AnswersInMemory result (IsFirst after at)
group_answer shape before after bytes at (Ok group) log place is =
    let there = found_first after bytes at _ (walks_from shape before after bytes at log place) in
    first_of_answer after at there.0 group (cc (is, there.1)) there.2
group_answer shape before after bytes at (Err DeviceFault) log place is = tt
group_answer shape before after bytes at (Err NotOpen) log place is = is
group_answer shape before after bytes at (Err (BadFrame offset seen)) log place is =
    let there = found_first after bytes at _ (walks_from shape before after bytes at log place) in
    absurd (cc (is, there.1))
group_answer shape before after bytes at (Err NoMemory) log place is = tt
