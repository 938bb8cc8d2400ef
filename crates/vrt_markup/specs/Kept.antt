-- What a reader that goes on after a fault keeps of an element, and how its answers are compared with definitions.
use Rattle.std.specs.Prelude.{ℕ, Bool, ◌&&◌, List, ◌++◌, Option, Some, None, Result, Ok, Err, ◌≡◌}
use Rattle.vrt_markup.specs.Items.{Tag}
use Rattle.lists_and_answers.specs.Answers.{◌>>=◌}
use Rattle.vrt_markup.specs.Forest.{Forest, over, all_white, text_of, child_of}
use Rattle.vrt_markup.specs.declared.fault.VrtFault.{VrtFault}
use Rattle.vrt_markup.specs.declared.fault.VrtFault.TheVariants.{BadText, UnknownElement, MissingPart, BadNumber}
use Rattle.vrt_markup.specs.declared.fault.VrtFault.TheVariants.{Unsupported, Limit, Memory}

-- a fault is the one that a definition gives, unless memory ran out
abbrev pub Fails : {Y : Type 0} → VrtFault → Result Y VrtFault → Type 0
Fails Memory read = Unit {0}
Fails (BadText place) read = Err (BadText place) ≡ read
Fails (UnknownElement place) read = Err (UnknownElement place) ≡ read
Fails MissingPart read = Err MissingPart ≡ read
Fails BadNumber read = Err BadNumber ≡ read
Fails Unsupported read = Err Unsupported ≡ read
Fails Limit read = Err Limit ≡ read

-- What a function returned, seen by view, is what a definition gives, unless memory ran out.
abbrev pub Gives : {X Y : Type 0} → (X → Y) → Result X VrtFault → Result Y VrtFault → Type 0
Gives view (Ok x) read = Ok (view x) ≡ read
Gives view (Err e) read = Fails e read

-- What is known of an element after a part of what stands in it, where forest is what is left:
-- the parts or the first fault among its children, and whether its text is all white.
abbrev pub seen : {S : Type 0} → (S → ℕ → Tag → Forest → Result S VrtFault) → Result S VrtFault → Bool → Forest →
    Result S VrtFault × Bool
seen step kept white forest = (kept >>= λ s. over step s forest, white && all_white forest)

abbrev pub first_child : Option ℕ → Option ℕ → Option ℕ
first_child None later = later
first_child (Some place) later = Some place

-- the same of an element that holds text alone
abbrev pub worded : List ℕ → Option ℕ → Forest → List ℕ × Option ℕ
worded front child forest = (front ++ text_of forest, first_child child (child_of forest))

-- the parts, unless a child is at fault
abbrev pub kept_of : {S : Type 0} → S → Result (Unit {0}) VrtFault → Result S VrtFault
kept_of s (Ok x) = Ok s
kept_of s (Err e) = Err e

-- any element in an element that has none is unknown
abbrev pub no_child : Bool → ℕ → Tag → Forest → Result Bool VrtFault
no_child s place tag inside = Err (UnknownElement place)
