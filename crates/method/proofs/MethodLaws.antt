-- Commands and content headers that their writers accept are read back as they were written.
use mathlib.Core.Path.{◌≡◌, refl, sym, ap, ◌∙◌}
use mathlib.Core.Bool.{Bool, true, false}
use Rattle.std.specs.Prelude.{None}
use mathlib.Core.List.{List, [], ◌∷◌, ◌++◌}
use Prim.Native.Nat.{ℕ, zero, suc, ◌+◌, ◌-◌, ◌*◌, ◌^◌, ◌/◌, ◌%◌, ◌≤◌, ◌<◌}
use native.Mathlib.Omega.{arith}
use native.Mathlib.Nat.{mod-eq_of_lt, two-pow-succ}
use lib.ListN.{length}
use lib.Dec.{leb}
use lib.Arith.{digits_mod}
use Rattle.types.specs.Answer.{given}
use Rattle.types.specs.Octets.{octets}
use Rattle.types.proofs.Tests.{decide, leb_yes, leb_no, yes_leb, no_leb}
use Rattle.types.proofs.Standing.{Stands, stands-left, stands-right}
use Rattle.types.proofs.Chain.{or_else-none}
use Rattle.types.proofs.RoundTrip.{number-here}
use Rattle.tables.specs.Letters.{Letters}
use Rattle.tables.proofs.JudgeLaws.{Octets, and-true}
use Rattle.method.specs.Fields.{Field, fixed, arg, Meaning, Located, Pooled, Args}
use Rattle.method.specs.Commands.{commands, known, fields_of, Command, call}
use Rattle.method.specs.Properties.{properties, select, flags_number, flags_of, Header, header}
use Rattle.method.specs.Writing.{command_values, header_values, field_octets, command_octets, header_octets, judge_arg_length, judge_lengths, TypedAll, TypedCommand, TypedHeader, NoNulArgs, NoNulCommand}
use Rattle.method.specs.Pooled.{pooled_meaning, pooled_meanings, pooled_command_meaning, pooled_header_meaning, judge_arg, judge_args, refusal_of, command_refusal, header_refusal}
use Rattle.method.specs.Reading.{command_at, header_at, command_with_tape, header_with_tape, command_meaning, header_meaning}
use Rattle.method.proofs.LayoutLaws.{every, every-command, select-every}
use Rattle.method.proofs.FieldLaws.{Fits, place_all, fields-here, tape-sizes, args-meaning}
use Rattle.method.proofs.KindLaws.{laws}

-- Flags

pub flags-lt : (ps : List Bool) → flags_number ps < 2 ^ length ps
flags-lt [] = omega arith
flags-lt (true ∷ ps) = omega (arith, flags-lt ps, two-pow-succ (length ps))
flags-lt (false ∷ ps) = omega (arith, flags-lt ps, two-pow-succ (length ps))

pub flags-of : (ps : List Bool) → flags_of (length ps) (flags_number ps) ≡ ps
unfolding flags_of
flags-of [] = refl
flags-of (true ∷ ps) = rw (leb_yes (2 ^ length ps) (1 * 2 ^ length ps + flags_number ps) (omega arith), digits_mod 1 (flags-lt ps), flags-of ps)
flags-of (false ∷ ps) =
    rw (leb_no (2 ^ length ps) (0 * 2 ^ length ps + flags_number ps) (omega (arith, flags-lt ps)), digits_mod 0 (flags-lt ps), flags-of ps)

pub flags-length : (w n : ℕ) → length (flags_of w n) ≡ w
unfolding flags_of
flags-length zero n = refl
flags-length (suc w) n = ap suc (flags-length w (n % 2 ^ w))

pub flags-number : (w n : ℕ) → n < 2 ^ w → flags_number (flags_of w n) ≡ n
unfolding flags_of
flags-number zero n h = omega arith
flags-number (suc w) n h =
    decide (leb (2 ^ w) n)
    (λ yes.
    let rest = n - 2 ^ w in
    let whole : n ≡ 1 * 2 ^ w + rest = omega (arith, yes_leb (2 ^ w) n yes) in
    let small : rest < 2 ^ w = omega (arith, two-pow-succ w) in
    let left : n % 2 ^ w ≡ rest = ap (λ (x : ℕ). x % 2 ^ w) whole ∙ digits_mod 1 small in
    rw (yes, flags-length w (n % 2 ^ w), left, flags-number w rest small) (sym whole))
    (λ no.
    let small : n < 2 ^ w = no_leb (2 ^ w) n no in
    rw (no, mod-eq_of_lt small, flags-number w n small) (omega arith))

pub flags-octets : (ps : List Bool) → length ps ≡ 13 → 8 * flags_number ps < 256 ^ 2
flags-octets ps e = let l : flags_number ps < 2 ^ 13 = rw e at (flags-lt ps) in omega arith

pub flags-read : (ps : List Bool) → length ps ≡ 13 → flags_of 13 (8 * flags_number ps / 8) ≡ ps
flags-read ps e =
    let d : 8 * flags_number ps / 8 ≡ flags_number ps = omega arith in
    rw d (ap (λ (w : ℕ). flags_of w (flags_number ps)) (sym e) ∙ flags-of ps)

module _ (letters : Letters) where
  -- Every kind in the tables is sound: one test over the tables

  abbrev sound : Field → Bool
  sound (fixed xs) = true
  sound (arg k) = (laws letters k).sound

  abbrev Sound : List Field → Type 0
  Sound fs = every sound fs ≡ true

  commands-sound : (c m : ℕ) → Sound (fields_of c m)
  commands-sound c m = every-command (every sound) c m refl (unfold commands in refl)

  properties-sound : (ps : List Bool) → Sound (select ps properties)
  properties-sound ps = select-every sound ps properties (unfold properties in refl)

  -- A content header has no login

  abbrev no_login : Field → Bool
  no_login (fixed xs) = true
  no_login (arg k) = (laws letters k).no_user

  no-login-args : (fs : List Field) → every no_login fs ≡ true → (vs : Args Meaning fs) → NoNulArgs fs vs
  no-login-args [] e vs = tt
  no-login-args (fixed xs ∷ fs) e vs = no-login-args fs e vs
  no-login-args (arg k ∷ fs) e vs =
      let a = and-true (no_login (arg k)) (every no_login fs) e in
      ((laws letters k).no_nul a.0 vs.0, no-login-args fs a.1 vs.1)

  no-login : (ps : List Bool) (fs : List Field) → every no_login fs ≡ true → (vs : Args Meaning (select ps fs)) → NoNulArgs (select ps fs) vs
  no-login ps fs e vs = no-login-args (select ps fs) (select-every no_login ps fs e) vs

module _ (letters : Letters) where
  abbrev pub FitCommand : Command Meaning → Type 0
  FitCommand (call c m vs) = (c < 256 ^ 2) × (m < 256 ^ 2) × (known c m ≡ true) × Fits letters (fields_of c m) vs

  abbrev pub FitHeader : Header Meaning → Type 0
  FitHeader (header c n ps vs) = (c < 256 ^ 2) × (n < 256 ^ 8) × (length ps ≡ 13) × Fits letters (select ps properties) vs

  -- Read back

  pub place_command : ℕ → Command Meaning → Command Located
  place_command p (call c m vs) = call c m (place_all letters (fields_of c m) (p + 2 + 2) vs)

  pub place_header : ℕ → Header Meaning → Header Located
  place_header p (header c n ps vs) = header c n ps (place_all letters (select ps properties) (p + 2 + 2 + 8 + 2) vs)

  pub command-here : {s : List ℕ} {p : ℕ} (x : Command Meaning) (room : ℕ) → FitCommand x → command_values x ≤ room → Stands s p (command_octets letters x)
      → length s ≡ p + length (command_octets letters x) → command_at letters s p room ≡ given (place_command p x) (p + length (command_octets letters x))
  unfolding command_at command_octets place_command
  command-here {s} {p} (call c m vs) room f k h l =
      let w = field_octets letters (fields_of c m) vs in
      let h1 : Stands s p (octets 2 c) = stands-left (octets 2 c) (octets 2 m ++ w) h in
      let g1 : Stands s (p + 2) (octets 2 m ++ w) = stands-right (octets 2 c) (octets 2 m ++ w) h in
      let h2 : Stands s (p + 2) (octets 2 m) = stands-left (octets 2 m) w g1 in
      let g2 : Stands s (p + 2 + 2) w = stands-right (octets 2 m) w g1 in
      rw (
        number-here 2 c f.0 h1,
        number-here 2 m f.1 h2,
        f.2,
        fields-here letters (fields_of c m) vs room f.3 k g2,
        leb_yes (length s) (p + 2 + 2 + length w) (omega arith),
      )
      (ap (given (call c m (place_all letters (fields_of c m) (p + 2 + 2) vs))) (omega arith))

  pub header-here : {s : List ℕ} {p : ℕ} (x : Header Meaning) (room : ℕ) → FitHeader x → header_values x ≤ room → Stands s p (header_octets letters x)
      → header_at letters s p room ≡ given (place_header p x) (p + length (header_octets letters x))
  unfolding header_at header_octets place_header
  header-here {s} {p} (header c n ps vs) room f k h =
      let w = field_octets letters (select ps properties) vs in
      let F = octets 2 (8 * flags_number ps) in
      let g1 : Stands s (p + 2) (octets 2 0 ++ (octets 8 n ++ (F ++ w))) = stands-right (octets 2 c) (octets 2 0 ++ (octets 8 n ++ (F ++ w))) h in
      let g2 : Stands s (p + 2 + 2) (octets 8 n ++ (F ++ w)) = stands-right (octets 2 0) (octets 8 n ++ (F ++ w)) g1 in
      let g3 : Stands s (p + 2 + 2 + 8) (F ++ w) = stands-right (octets 8 n) (F ++ w) g2 in
      let g4 : Stands s (p + 2 + 2 + 8 + 2) w = stands-right F w g3 in
      rw (
        number-here 2 c f.0 (stands-left (octets 2 c) (octets 2 0 ++ (octets 8 n ++ (F ++ w))) h),
        number-here 2 0 (omega arith) (stands-left (octets 2 0) (octets 8 n ++ (F ++ w)) g1),
        number-here 8 n f.1 (stands-left (octets 8 n) (F ++ w) g2),
        number-here 2 (8 * flags_number ps) (flags-octets ps f.2) (stands-left F w g3),
        flags-read ps f.2,
        fields-here letters (select ps properties) vs room f.3 k g4,
      )
      (ap (given (header c n ps (place_all letters (select ps properties) (p + 2 + 2 + 8 + 2) vs))) (omega arith))

  pub command-size : (x : Command Meaning) (p : ℕ) → length (command_with_tape (place_command p x)).tape ≡ command_values x
  unfolding place_command
  command-size (call c m vs) p = tape-sizes letters (fields_of c m) vs (p + 2 + 2)

  pub header-size : (x : Header Meaning) (p : ℕ) → length (header_with_tape (place_header p x)).tape ≡ header_values x
  unfolding place_header
  header-size (header c n ps vs) p = tape-sizes letters (select ps properties) vs (p + 2 + 2 + 8 + 2)

  pub command-meaning : {s : List ℕ} {p : ℕ} (x : Command Meaning) → FitCommand x → Stands s p (command_octets letters x)
      → command_meaning letters s (command_with_tape (place_command p x)).value (command_with_tape (place_command p x)).tape ≡ x
  unfolding place_command command_octets
  command-meaning {s} {p} (call c m vs) f h =
      let w = field_octets letters (fields_of c m) vs in
      ap (call c m) (args-meaning letters (fields_of c m) vs f.3 (stands-right (octets 2 m) w (stands-right (octets 2 c) (octets 2 m ++ w) h)))

  pub header-meaning : {s : List ℕ} {p : ℕ} (x : Header Meaning) → FitHeader x → Stands s p (header_octets letters x)
      → header_meaning letters s (header_with_tape (place_header p x)).value (header_with_tape (place_header p x)).tape ≡ x
  unfolding place_header header_octets
  header-meaning {s} {p} (header c n ps vs) f h =
      let w = field_octets letters (select ps properties) vs in
      let F = octets 2 (8 * flags_number ps) in
      let g1 : Stands s (p + 2) (octets 2 0 ++ (octets 8 n ++ (F ++ w))) = stands-right (octets 2 c) (octets 2 0 ++ (octets 8 n ++ (F ++ w))) h in
      ap (header c n ps) (args-meaning letters (select ps properties) vs f.3 (stands-right F w (stands-right (octets 8 n) (F ++ w) (stands-right (octets 2 0) (octets 8 n ++ (F ++ w)) g1))))

-- Arguments that pass fit

module _ (letters : Letters) (octet : Octets letters) (pool tape : List ℕ) where
  args-pass : (fs : List Field) (vs : Args Pooled fs) → Sound letters fs → TypedAll fs vs → judge_args letters pool tape fs vs ≡ None
      → judge_lengths letters fs (pooled_meanings letters pool tape fs vs) ≡ None → NoNulArgs fs (pooled_meanings letters pool tape fs vs)
      → Fits letters fs (pooled_meanings letters pool tape fs vs)
  unfolding judge_args judge_lengths pooled_meanings
  args-pass [] vs b t e l z = tt
  args-pass (fixed xs ∷ fs) vs b t e l z = args-pass fs vs b t e l z
  args-pass (arg k ∷ fs) vs b t e l z =
      let a = or_else-none (judge_arg letters pool tape k vs.0) (judge_args letters pool tape fs vs.1) e in
      let n = or_else-none (judge_arg_length letters k (pooled_meaning letters pool tape k vs.0)) (judge_lengths letters fs (pooled_meanings letters pool tape fs vs.1)) l in
      let s = and-true (sound letters (arg k)) (every (sound letters) fs) b in
      ((laws letters k).fit octet s.0 pool tape vs.0 t.0 a.0 n.0 z.0, args-pass fs vs.1 s.1 t.1 a.1 n.1 z.1)

  args_fit : (fs : List Field) (vs : Args Pooled fs) → Sound letters fs → TypedAll fs vs → refusal_of letters pool tape fs vs ≡ None → NoNulArgs fs (pooled_meanings letters pool tape fs vs)
      → Fits letters fs (pooled_meanings letters pool tape fs vs)
  args_fit fs vs b t e z =
      let a = or_else-none (judge_args letters pool tape fs vs) (judge_lengths letters fs (pooled_meanings letters pool tape fs vs)) e in
      args-pass fs vs b t a.0 a.1 z

  pub command-fit : (x : Command Pooled) → TypedCommand x → command_refusal letters pool tape x ≡ None → NoNulCommand (pooled_command_meaning letters pool tape x)
      → FitCommand letters (pooled_command_meaning letters pool tape x)
  unfolding TypedCommand NoNulCommand
  command-fit (call c m vs) t e z = (t.0, t.1, t.2, args_fit (fields_of c m) vs (commands-sound letters c m) t.3 e z)

  pub header-fit : (x : Header Pooled) → TypedHeader x → header_refusal letters pool tape x ≡ None → FitHeader letters (pooled_header_meaning letters pool tape x)
  unfolding TypedHeader
  header-fit (header c n ps vs) t e =
      (t.0, t.1, t.2, args_fit (select ps properties) vs (properties-sound letters ps) t.3 e (no-login letters ps properties (unfold properties in refl) (pooled_meanings letters pool tape (select ps properties) vs)))
