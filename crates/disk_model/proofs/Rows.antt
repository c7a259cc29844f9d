-- Writes in a row are one write of all their bytes.
use Rattle.std.proofs.Common.{◌≡◌, ℕ, ◌+◌, ◌-◌, ◌≤◌, min, List, [], ◌++◌, length, take, drop, replicate, sym, ◌∙◌, ap, arith, length-append, append_assoc, take-take, drop-drop, take_at, drop_at, append-nil}
use Rattle.disk_model.specs.Types.{written, Torn, length-done, length-written}

-- what a write leaves behind its range, or a longer one
pub torn_wider : (at n m : ℕ) (old new : List ℕ) → n ≤ m → Torn at n old new → Torn at m old new
torn_wider at n m old new le torn =
    let split : (l : List ℕ) → drop (at + m) l ≡ drop (m - n) (drop (at + n) l) = λ l. ap (λ (k : ℕ). drop k l) (omega arith) ∙ sym (drop-drop (m - n) (at + n) l) in
    record {
      before = torn.before;
      after = split new ∙ ap (drop (m - n)) torn.after ∙ sym (split old);
      no_shorter = torn.no_shorter;
      no_longer = omega (arith, torn.no_longer);
    }

-- one range right behind another
pub torn_then : (at n m : ℕ) (old mid new : List ℕ) → Torn at n old mid → Torn (at + n) m mid new → Torn at (n + m) old new
torn_then at n m old mid new first second =
    let k = min at (length old) in
    let split : (l : List ℕ) → drop (at + (n + m)) l ≡ drop m (drop (at + n) l) = λ l. ap (λ (i : ℕ). drop i l) (omega arith) ∙ sym (drop-drop m (at + n) l) in
    let here : (l : List ℕ) → drop m (drop (at + n) l) ≡ drop (at + n + m) l = λ l. drop-drop m (at + n) l ∙ ap (λ (i : ℕ). drop i l) (omega arith) in
    let behind : drop m (drop (at + n) new) ≡ drop m (drop (at + n) mid) = here new ∙ second.after ∙ sym (here mid) in
    let inside : k ≤ min (at + n) (length mid) = omega (arith, first.no_shorter) in
    record {
      before =
          sym (take-take k (min (at + n) (length mid)) new inside) ∙ ap (take k) second.before
          ∙ take-take k (at + n) mid (omega arith) ∙ first.before;
      after = split new ∙ behind ∙ ap (drop m) first.after ∙ sym (split old);
      no_shorter = omega (arith, first.no_shorter, second.no_shorter);
      no_longer = omega (arith, first.no_longer, second.no_longer);
    }

-- the bytes of one write right behind another
pub written_then : (old first second : List ℕ) (at : ℕ) → written (written old at first) (at + length first) second ≡ written old at (first ++ second)
written_then old first second at =
    let n = length first in
    let front = take at old ++ replicate (at - length old) 0 ++ first in
    let mid = written old at first in
    let long = length-done old first at in
    let begins : take (at + n) mid ≡ front = take_at front (drop (at + n) old) (at + n) long in
    let none : at + n - length mid ≡ 0 = omega (arith, length-written old first at) in
    let tail : drop (at + n) mid ≡ drop (at + n) old = drop_at front (drop (at + n) old) (at + n) long in
    let split : (l : List ℕ) → drop (at + n + length second) l ≡ drop (length second) (drop (at + n) l) = λ l. ap (λ (i : ℕ). drop i l) (omega arith) ∙ sym (drop-drop (length second) (at + n) l) in
    let ends : drop (at + n + length second) mid ≡ drop (at + length (first ++ second)) old =
    split mid ∙ ap (drop (length second)) tail ∙ sym (split old) ∙ ap (λ (i : ℕ). drop i old) (omega (arith, length-append first second)) in
    ap (λ (l : List ℕ). l ++ replicate (at + n - length mid) 0 ++ second ++ drop (at + n + length second) mid) begins
    ∙ ap (λ (i : ℕ). front ++ replicate i 0 ++ second ++ drop (at + n + length second) mid) none
    ∙ ap (λ (l : List ℕ). front ++ [] ++ second ++ l) ends
    ∙ simp (append_assoc, append-nil)
