-- Undo addresses and writers.
use Rattle.std.proofs.Common.{◌≡◌, ℕ, Option, Some, None, sym, ◌∙◌, ap}
use Rattle.seg_words.specs.Types.{UndoAddr, Writer, By, At}

pub same_addr : (a b : UndoAddr) → a.block ≡ b.block → a.seq ≡ b.seq → a.nth ≡ b.nth → a ≡ b
same_addr a b p q r = ap (λ n. record a { block = n }) p ∙ ap (λ n. record a { block = b.block; seq = n }) q ∙ ap (λ n. record { block = b.block; seq = b.seq; nth = n }) r

pub addr_inside : (a b : UndoAddr) → ◌≡◌ {A = Option UndoAddr} (Some a) (Some b) → a ≡ b
addr_inside a b e = cc

pub no_addr : (o : Option UndoAddr) (a : UndoAddr) → o ≡ None → o ≡ Some a → ⊥
no_addr o a n e = (let z : ◌≡◌ {A = Option UndoAddr} None (Some a) = sym n ∙ e in cc)

pub not_by : (w : Writer) (c u : ℕ) → w ≡ At c → w ≡ By u → ⊥
not_by w c u n e = (let z : At c ≡ By u = sym n ∙ e in cc)
