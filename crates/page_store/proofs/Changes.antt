-- A file of which some parts stay as they are.
use Rattle.std.proofs.Common.{◌-◌, ◌≡◌, ◌⊎◌, ℕ, ◌+◌, ◌≤◌, List, [], ◌∷◌, length, take, drop, get_or, refl, sym, ◌∙◌, ap, arith, drop-drop}
use Rattle.seg_words.specs.Types.{BLOCK_SIZE, DOUBLE_WRITE_BLOCK}
use Rattle.std.proofs.lemmas.List.{drop-take}
use Rattle.disk_model.specs.Types.{Torn}
use Rattle.page_store.specs.Types.{part, block, gate, AREA_AT}
use Rattle.page_store.proofs.Parts.{part_torn, length_torn}

-- it is as long, and these parts, each by its place and length, are the same
pub record Stays (P : ℕ → ℕ → Type 0) (old new : List ℕ) : Type 0 where
  pub long : length new ≡ length old
  pub same : (k n : ℕ) → P k n → part k n new ≡ part k n old

-- outside m bytes
abbrev pub Beside : ℕ → ℕ → ℕ → ℕ → Type 0
Beside at m k n = (k + n ≤ at) ⊎ (at + m ≤ k)

pub stays_all : (P : ℕ → ℕ → Type 0) (old : List ℕ) → Stays P old old
stays_all P old = record { long = refl; same = λ k n is. refl }

-- one write more, torn or not
pub stays_torn : (P : ℕ → ℕ → Type 0) (at m : ℕ) (old b c : List ℕ) → at + m ≤ length old → ((k n : ℕ) → P k n → Beside at m k n) → Stays P old b → Torn at m b c → Stays P old c
stays_torn P at m old b c within beside so_far torn = record {
  long = length_torn at m b c torn (omega (arith, so_far.long)) ∙ so_far.long;
  same = λ k n is. part_torn at m k n b c torn (omega (arith, so_far.long)) (beside k n is) ∙ so_far.same k n is;
}

pub torn_stays : (at m : ℕ) (old c : List ℕ) → at + m ≤ length old → Torn at m old c → Stays (Beside at m) old c
torn_stays at m old c within torn = stays_torn (Beside at m) at m old old c within (λ k n is. is) (stays_all (Beside at m) old) torn

pub stays_then : (P Q : ℕ → ℕ → Type 0) (a b c : List ℕ) → ((k n : ℕ) → P k n → Q k n) → Stays P a b → Stays Q b c → Stays P a c
stays_then P Q a b c weaker first second = record { long = second.long ∙ first.long; same = λ k n is. second.same k n (weaker k n is) ∙ first.same k n is }

-- the head of the area behind its gate
pub behind_gate : (bytes : List ℕ) → part (AREA_AT + 1) (BLOCK_SIZE - 1) bytes ≡ drop 1 (block DOUBLE_WRITE_BLOCK bytes)
behind_gate bytes = ap (take (BLOCK_SIZE - 1)) (sym (drop-drop 1 AREA_AT bytes)) ∙ sym (drop-take 1 (BLOCK_SIZE - 1) (drop AREA_AT bytes))

pub gate_part : (bytes : List ℕ) → gate bytes ≡ get_or (part AREA_AT 1 bytes) 0 0
gate_part bytes = first (drop AREA_AT bytes)
  where
    first : (l : List ℕ) → get_or (take BLOCK_SIZE l) 0 0 ≡ get_or (take 1 l) 0 0
    first [] = refl
    first (x ∷ l) = refl
