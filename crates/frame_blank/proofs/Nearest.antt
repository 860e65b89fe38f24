-- With no stated fill a marked sample is set to the nearest sample to the left in its row, at a column of its parity, whose map byte
-- is 0, as that sample was lent; and to 0 if there is none.
use mathlib.Core.Path.{◌≡◌, refl, sym, ap, ◌∙◌}
use mathlib.Core.Bool.{Bool, true, false, cond}
use mathlib.Core.List.{List, ◌++◌}
use Prim.Native.Nat.{ℕ, zero, suc, ◌+◌, ◌*◌, ◌≤◌, ◌<◌}
use native.Mathlib.Omega.{arith}
use native.Mathlib.Nat.{mul_comm, mul-le-mul_right, zero-mul}
use lib.ListN.{length, get_or, take, drop, length-drop, get_or-append}
use lib.Seq.{length-take-le, get_or-take, get_or-drop, get_or-append-add, drop-drop}
use Rattle.rules.specs.declared.answer.Size.{Size}
use Rattle.rules.specs.Frame.{cells}
use Rattle.frame_blank.specs.Blanking.{Fill, unstated, marked, blank_row, blank_rows, blanked}
use Rattle.frame_blank.proofs.ByteLaws.{unmarked_zero}
use Rattle.frame_blank.proofs.RowLaws.{blank_row_length, blank_row_get}

-- ── The statement ──

-- Column s is the nearest to the left of c that has its parity and byte 0: every one between them that has its parity is marked.
pub record Nearest (byte : ℕ → ℕ) (c s : ℕ) : Type 0 where
  pub pairs : ℕ
  pub left : s + 2 * suc pairs ≡ c
  pub unmarked : byte s ≡ 0
  pub none_nearer : (t k : ℕ) → t + 2 * suc k ≡ c → s < t → marked (byte t) ≡ true

-- There is none.
abbrev pub None : (ℕ → ℕ) → ℕ → Type 0
None byte c = (t k : ℕ) → t + 2 * suc k ≡ c → marked (byte t) ≡ true

-- Where a value comes from, by the bytes and the samples of a row.
pub data Source (byte sample : ℕ → ℕ) (c v : ℕ) : Type 0 where
  nearest : (s : ℕ) → Nearest byte c s → v ≡ sample s → Source byte sample c v
  nowhere : None byte c → v ≡ 0 → Source byte sample c v

-- ── Of a row ──

pub unstated_source : (row map : List ℕ) (c : ℕ) → Source (λ t. get_or map t 0) (λ t. get_or row t 0) c (unstated row map c)
unfolding unstated
unstated_source row map zero = nowhere (λ t k e. absurd (omega arith)) refl
unstated_source row map (suc zero) = nowhere (λ t k e. absurd (omega arith)) refl
unstated_source row map (suc (suc c)) = go (marked (get_or map c 0)) refl (unstated_source row map c)
  where
    byte : ℕ → ℕ
    byte t = get_or map t 0

    sample : ℕ → ℕ
    sample t = get_or row t 0

    -- One further to the right sees the same, if what lies between is marked.
    beyond : marked (byte c) ≡ true → (P : ℕ → Type 0) → ((t k : ℕ) → t + 2 * suc k ≡ c → P t → marked (byte t) ≡ true)
        → (t k : ℕ) → t + 2 * suc k ≡ suc (suc c) → P t → marked (byte t) ≡ true
    beyond e P h t zero q p = let at : t ≡ c = omega arith in ap (λ j. marked (byte j)) at ∙ e
    beyond e P h t (suc k) q p = h t k (omega arith) p

    go : (b : Bool) → marked (byte c) ≡ b → Source byte sample c (unstated row map c)
        → Source byte sample (suc (suc c)) (cond b (unstated row map c) (get_or row c 0))
    go false e again =
        nearest c record { pairs = 0; left = omega arith; unmarked = unmarked_zero (byte c) e; none_nearer = λ t k q h. absurd (omega arith) } refl
    go true e (nearest s n v) =
        nearest s record { pairs = suc n.pairs; left = omega (arith, n.left); unmarked = n.unmarked; none_nearer = beyond e (λ t. s < t) n.none_nearer } v
    go true e (nowhere n v) = nowhere (λ t k q. beyond e (λ j. Unit {0}) (λ j i r x. n j i r) t k q tt) v

-- ── Of a frame ──

-- Bytes and samples that are the same to the left of a column.
source_same : {byte byte' sample sample' : ℕ → ℕ} {c v : ℕ} → ((t : ℕ) → t < c → byte t ≡ byte' t) → ((t : ℕ) → t < c → sample t ≡ sample' t)
    → Source byte sample c v → Source byte' sample' c v
source_same b x (nearest s n v) =
    let h = n.left in
    nearest s
    record {
      pairs = n.pairs;
      left = n.left;
      unmarked = sym (b s (omega arith)) ∙ n.unmarked;
      none_nearer = λ t k q d. ap marked (sym (b t (omega arith))) ∙ n.none_nearer t k q d;
    }
    (v ∙ x s (omega arith))
source_same b x (nowhere n v) = nowhere (λ t k q. ap marked (sym (b t (omega arith))) ∙ n t k q) v

-- A row of a blanked frame is the row blanked.
row_of : (fill : Fill) (w n : ℕ) (f m : List ℕ) (r c : ℕ) → r < n → c < w → n * w ≤ length f
    → get_or (blank_rows fill w n f m) (r * w + c) 0 ≡ get_or (blank_row fill (take w (drop (r * w) f)) (take w (drop (r * w) m))) c 0
unfolding blank_rows
row_of fill w zero f m r c h k l = absurd (omega arith)
row_of fill w (suc n) f m zero c h k l =
    let wide = blank_row_length fill (take w f) (take w m) ∙ length-take-le w f (omega arith) in
    rw (zero-mul w)
    (let e : 0 + c ≡ c = omega arith in
    rw e (get_or-append (blank_row fill (take w f) (take w m)) (blank_rows fill w n (drop w f) (drop w m)) 0 c (omega (arith, wide))))
row_of fill w (suc n) f m (suc r) c h k l =
    let wide = blank_row_length fill (take w f) (take w m) ∙ length-take-le w f (omega arith) in
    let at : suc r * w + c ≡ length (blank_row fill (take w f) (take w m)) + (r * w + c) = omega (arith, wide) in
    let on : w + r * w ≡ suc r * w = omega arith in
    ap (λ i. get_or (blank_row fill (take w f) (take w m) ++ blank_rows fill w n (drop w f) (drop w m)) i 0) at
    ∙ get_or-append-add (blank_row fill (take w f) (take w m)) (blank_rows fill w n (drop w f) (drop w m)) (r * w + c) 0
    ∙ row_of fill w n (drop w f) (drop w m) r c (omega arith) k (omega (arith, length-drop w f))
    ∙ rw (drop-drop (r * w) w f, drop-drop (r * w) w m, on)

-- Every marked sample of a blanked frame, by its row and its column.
pub blanked_source : (z : Size) (f m : List ℕ) → length f ≡ cells z → (r c : ℕ) → r < z.height → c < z.width → marked (get_or m (r * z.width + c) 0) ≡ true
    → Source (λ t. get_or m (r * z.width + t) 0) (λ t. get_or f (r * z.width + t) 0) c (get_or (blanked unstated z f m) (r * z.width + c) 0)
blanked_source z f m l r c h k e = rw is (source_same (λ t d. of m t (omega arith)) (λ t d. of f t (omega arith)) (unstated_source (part f) (part m) c))
  where
    w : ℕ
    w = z.width

    part : List ℕ → List ℕ
    part x = take w (drop (r * w) x)

    of : (x : List ℕ) (t : ℕ) → t < w → get_or (part x) t 0 ≡ get_or x (r * w + t) 0
    of x t d = get_or-take w (drop (r * w) x) t 0 d ∙ get_or-drop (r * w) x t 0

    wide : length (part f) ≡ w
    wide =
        let room : suc r * w ≤ z.height * w = mul-le-mul_right w (omega arith) in
        length-take-le w (drop (r * w) f) (omega (arith, room, length-drop (r * w) f, l, mul_comm w z.height))

    is : get_or (blanked unstated z f m) (r * w + c) 0 ≡ unstated (part f) (part m) c
    is =
        row_of unstated w z.height f m r c h k (omega (arith, l, mul_comm w z.height)) ∙ blank_row_get unstated (part f) (part m) c (omega (arith, wide))
        ∙ ap (λ b. cond b (unstated (part f) (part m) c) (get_or (part f) c 0)) (ap marked (of m c k) ∙ e)
