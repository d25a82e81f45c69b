-- What a command or a content header is made of: a list of fields, fixed octets or arguments (document 01, "method.rs").
use Rattle.std.specs.Prelude.{Bool, List, [], ◌∷◌, ℕ}
use Rattle.method.specs.Kinds.{FieldKind}
use Rattle.method.specs.Kinds.Number.{number_kind}
use Rattle.method.specs.Kinds.ShortStr.{short_str_kind}
use Rattle.method.specs.Kinds.Bits.{bits_kind}
use Rattle.method.specs.Kinds.Login.{login_kind}
use Rattle.method.specs.Kinds.Table.{table_kind}

pub data Kind : Type 0 where
  -- so many octets
  number : ℕ → Kind
  short_str : Kind
  -- one octet, lowest bit first: true where an argument stands
  bits : List Bool → Kind
  login : Kind
  table : Kind

abbrev pub kind : Kind → FieldKind
kind (number k) = number_kind k
kind short_str = short_str_kind
kind (bits places) = bits_kind places
kind login = login_kind
kind table = table_kind

pub data Field : Type 0 where
  fixed : List ℕ → Field
  arg : Kind → Field

-- The forms of an argument

abbrev pub Meaning : Kind → Type 0
Meaning k = (kind k).Meaning

abbrev pub Located : Kind → Type 0
Located k = (kind k).Located

abbrev pub Pooled : Kind → Type 0
Pooled k = (kind k).Pooled

-- one for each argument of some fields
abbrev pub Args : (Kind → Type 0) → List Field → Type 0
Args X [] = Unit {0}
Args X (fixed octets ∷ fs) = Args X fs
Args X (arg k ∷ fs) = X k × Args X fs

-- each argument in another form
abbrev pub map_args : {X Y : Kind → Type 0} → ((k : Kind) → X k → Y k) → (fs : List Field) → Args X fs → Args Y fs
map_args f [] vs = tt
map_args f (fixed octets ∷ fs) vs = map_args f fs vs
map_args f (arg k ∷ fs) vs = (f k vs.0, map_args f fs vs.1)

-- what all arguments come to, in order
abbrev pub fold_args : {X : Kind → Type 0} {M : Type 0} → (M → M → M) → M → ((k : Kind) → X k → M) → (fs : List Field) → Args X fs → M
fold_args join nil f [] vs = nil
fold_args join nil f (fixed octets ∷ fs) vs = fold_args join nil f fs vs
fold_args join nil f (arg k ∷ fs) vs = join (f k vs.0) (fold_args join nil f fs vs.1)

-- what holds of each
abbrev pub AllArgs : {X : Kind → Type 0} → ((k : Kind) → X k → Type 0) → (fs : List Field) → Args X fs → Type 0
AllArgs P [] vs = Unit {0}
AllArgs P (fixed octets ∷ fs) vs = AllArgs P fs vs
AllArgs P (arg k ∷ fs) vs = P k vs.0 × AllArgs P fs vs.1
