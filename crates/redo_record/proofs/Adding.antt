-- What was there stays in front.
use Rattle.std.proofs.Common.{◌≡◌, ℕ, List, [], ◌++◌, length, take, sym, ap, ◌∙◌, append_assoc, append-nil}
use Rattle.seg_words.proofs.Lemmas.{take-append_seam}
use Rattle.seg_words.specs.Types.{Slot, slot_bytes}
use Rattle.redo_record.specs.Types.{image, Begins}

pub begins_same : (a b : List ℕ) → b ≡ a → Begins a b
begins_same a b e = record { more = []; parts = e ∙ sym (append-nil a) }

pub begins_then : (a x b c : List ℕ) → b ≡ a ++ x → Begins b c → Begins a c
begins_then a x b c e h = record { more = x ++ h.more; parts = h.parts ∙ ap (λ (t : List ℕ). t ++ h.more) e ∙ append_assoc a x h.more }

pub kept_front : (a b : List ℕ) → Begins a b → take (length a) b ≡ a
kept_front a b h = ap (take (length a)) h.parts ∙ take-append_seam a h.more

pub ruleset adding = (begins_same, begins_then)

-- some bytes added behind others that were added
pub then_more : (a x b y c : List ℕ) → b ≡ a ++ x → c ≡ b ++ y → c ≡ a ++ (x ++ y)
then_more a x b y c e h = h ∙ ap (λ (t : List ℕ). t ++ y) e ∙ append_assoc a x y

-- a slot's 40 bytes, and its row behind them
pub image_added : (slot : Slot) (a b c head row : List ℕ) → head ≡ slot_bytes slot → row ≡ slot.bytes → b ≡ a ++ head → c ≡ b ++ row → c ≡ a ++ image slot
unfolding image
image_added slot a b c head row h r e f = then_more a (slot_bytes slot) b slot.bytes c (e ∙ ap (λ (t : List ℕ). a ++ t) h) (f ∙ ap (λ (t : List ℕ). b ++ t) r)
