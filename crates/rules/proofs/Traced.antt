-- What is read, traced to the fields that it is made of: at most so many, and a stream in which each of them reads the same gives the
-- same. Every stage of a format is traced once; what a longer stream gives, how far the reader gets and which words are missing then
-- follow from the fields alone.
use Prim.Native.Nat.{ℕ, ◌+◌, ◌*◌, ◌≤◌, min}
use mathlib.Core.Bool.{Bool, true, false, cond}
use mathlib.Core.Path.{◌≡◌, refl, sym, ap, ◌∙◌}
use mathlib.Core.List.{List, [], ◌∷◌, ◌++◌}
use native.Mathlib.Omega.{arith}
use lib.ListN.{length, length-append}
use Rattle.rules.specs.declared.reader.Bits.{Bits}
use Rattle.rules.specs.Reader.{read, fields, four, read_signed, read_residual, signed, modulo}
use Rattle.rules.proofs.Cells.{All, all_head, all_parts}
use Rattle.rules.proofs.ReaderLaws.{read_pos, read_kept, fields_none, fields_more, four_fields, read_signed_is, read_residual_is}

-- ── Fields one after another ──

-- A field: the reader's state before it, and its bits.
pub record Field : Type 0 where
  pub start : Bits
  pub width : ℕ

-- Fields that lead a reader of s from one state to another.
pub data Leads (s : List ℕ) : Bits → List Field → Bits → Type 0 where
  arrived : {b : Bits} → Leads s b [] b
  next : {b c : Bits} {fs : List Field} (n : ℕ) → Leads s (read s b n).bits fs c → Leads s b (record { start = b; width = n } ∷ fs) c

leads_append : {s : List ℕ} {b c d : Bits} {fs gs : List Field} → Leads s b fs c → Leads s c gs d → Leads s b (fs ++ gs) d
leads_append arrived q = q
leads_append (next n p) q = next n (leads_append p q)

-- Each field reads the same in both streams.
abbrev pub ReadAlike : List ℕ → List ℕ → List Field → Type 0
ReadAlike s u fs = All (λ f. read s f.start f.width ≡ read u f.start f.width) fs

-- A field takes one word at most.
leads_pos : {s : List ℕ} {b c : Bits} {fs : List Field} → Leads s b fs c → c.pos ≤ b.pos + 4 * length fs
leads_pos {b = b} arrived = omega arith
leads_pos {s = s} {b = b} (next n p) = omega (arith, read_pos s b n, leads_pos p)

-- No word was missing before fields after which none was.
pub leads_kept : {s : List ℕ} {b c : Bits} {fs : List Field} → Leads s b fs c → c.filler ≡ 0 → b.filler ≡ 0
leads_kept arrived e = e
leads_kept {s = s} {b = b} (next n p) e = read_kept s b n (leads_kept p e)

-- ── What is made of fields ──

-- Of s, f is made of at most n fields from the state b on. `state` is the reader's state after it.
pub record Traced (s : List ℕ) (n : ℕ) {X : Type 0} (state : X → Bits) (b : Bits) (f : List ℕ → X) : Type 0 where
  pub parts : List Field
  pub leads : Leads s b parts (state (f s))
  pub few : length parts ≤ n
  pub same : (u : List ℕ) → ReadAlike s u parts → f s ≡ f u

module _ {s : List ℕ} where
  -- Nothing is read.
  pub traced_none : {X : Type 0} {state : X → Bits} {n : ℕ} (x : X) → Traced s n state (state x) (λ u. x)
  traced_none x = record { parts = []; leads = arrived; few = omega arith; same = λ u a. refl }

  -- Something is made of what is read.
  pub traced_map : {X Z : Type 0} {after : Z → Bits} (make : X → Z) {n : ℕ} {b : Bits} {f : List ℕ → X}
      → Traced s n (λ x. after (make x)) b f → Traced s n after b (λ u. make (f u))
  traced_map make t = record { parts = t.parts; leads = t.leads; few = t.few; same = λ u a. ap make (t.same u a) }

  -- One thing is read after another.
  pub traced_then : {X Z : Type 0} {state : X → Bits} {after : Z → Bits} (g : List ℕ → X → Z) {n m : ℕ} {b : Bits} {f : List ℕ → X}
      → Traced s n state b f → Traced s m after (state (f s)) (λ u. g u (f s)) → Traced s (n + m) after b (λ u. g u (f u))
  traced_then g t v =
      record {
        parts = t.parts ++ v.parts;
        leads = leads_append t.leads v.leads;
        few = rw length-append (omega (arith, t.few, v.few));
        same = λ u a. let q = all_parts t.parts a in v.same u q.1 ∙ ap (g u) (t.same u q.0);
      }

  -- One of two things is read.
  pub traced_cond : {X : Type 0} {state : X → Bits} (t : Bool) {n : ℕ} {b : Bits} {f g : List ℕ → X}
      → Traced s n state b f → Traced s n state b g → Traced s n state b (λ u. cond t (f u) (g u))
  traced_cond true p q = p
  traced_cond false p q = q

  -- The reader has moved on by so many words at most.
  pub traced_pos : {X : Type 0} {state : X → Bits} {n : ℕ} {b : Bits} {f : List ℕ → X} → Traced s n state b f → (state (f s)).pos ≤ b.pos + 4 * n
  traced_pos t = omega (arith, leads_pos t.leads, t.few)

  pub wider : {X : Type 0} {state : X → Bits} {n m : ℕ} {b : Bits} {f : List ℕ → X} → n ≤ m → Traced s n state b f → Traced s m state b f
  wider l t = record { parts = t.parts; leads = t.leads; few = omega (arith, t.few); same = t.same }

  -- It is written in another way.
  pub traced_as : {X : Type 0} {state : X → Bits} {n : ℕ} {b : Bits} {f g : List ℕ → X} → ((u : List ℕ) → f u ≡ g u)
      → Traced s n state b f → Traced s n state b g
  traced_as h t = record { parts = t.parts; leads = rw (← h s) t.leads; few = t.few; same = λ u a. sym (h s) ∙ t.same u a ∙ h u }

-- ── Fields ──

module _ (s : List ℕ) where
  pub read_traced : (b : Bits) (n : ℕ) → Traced s 1 (λ g. g.bits) b (λ u. read u b n)
  read_traced b n = record { parts = record { start = b; width = n } ∷ []; leads = next n arrived; few = omega arith; same = λ u a. all_head a }

  pub fields_traced : (ns : List ℕ) (b : Bits) → Traced s (length ns) (λ f. f.bits) b (λ u. fields u ns b)
  fields_traced [] b = traced_as (λ u. sym (fields_none u b)) (traced_none (record { values = []; bits = b }))
  fields_traced (n ∷ ns) b =
      traced_as (λ u. sym (fields_more u n ns b))
      (wider (omega arith)
      (traced_then (λ u g. let rest = fields u ns g.bits in record { values = g.value ∷ rest.values; bits = rest.bits })
      (read_traced b n)
      (traced_map (λ f. record { values = (read s b n).value ∷ f.values; bits = f.bits }) (fields_traced ns (read s b n).bits))))

  pub four_traced : (n : ℕ) (b : Bits) → Traced s 4 (λ f. f.bits) b (λ u. four u n b)
  four_traced n b =
      traced_as (λ u. sym (four_fields u n b)) (traced_map (λ f. record { value = f.values; bits = f.bits }) (fields_traced (n ∷ n ∷ n ∷ n ∷ []) b))

  pub read_signed_traced : (b : Bits) (n : ℕ) → Traced s 1 (λ g. g.bits) b (λ u. read_signed u b n)
  read_signed_traced b n =
      traced_as (λ u. sym (read_signed_is u b n)) (traced_map (λ g. record { value = signed (min n 32) g.value; bits = g.bits }) (read_traced b n))

  pub read_residual_traced : (b : Bits) (n : ℕ) → Traced s 1 (λ g. g.bits) b (λ u. read_residual u b n)
  read_residual_traced b n =
      traced_as (λ u. sym (read_residual_is u b n))
      (traced_map (λ g. record { value = modulo (signed (min n 32) g.value); bits = g.bits }) (read_traced b n))
