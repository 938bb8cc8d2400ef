-- What structs of the code are for the definitions.
use Rattle.std.specs.Prelude.{◌≡◌, ℕ, Option, List, ◌<◌, length, Result, Ok, Err}
use Rattle.vrt_markup.specs.declared.text.Words.{Words}
use Rattle.vrt_markup.specs.declared.text.Plain.{Plain}
use Rattle.vrt_markup.specs.declared.text.Plain.TheVariants.{Lent, Own}
use Rattle.vrt_markup.specs.declared.fault.VrtFault.{VrtFault}
use Rattle.vrt_markup.specs.Forest.{ForestRead}
use Rattle.vrt_markup.specs.Tree as tree
use Rattle.vrt_markup.specs.declared.root.Root.{Root}
use Rattle.vrt_markup.specs.Items as items
use Rattle.vrt_markup.specs.Items.{pairs, bad, comment, run, open_tag, close_tag}
use Rattle.vrt_markup.specs.declared.tag.Tag.{Tag}
use Rattle.vrt_markup.specs.declared.items.Item.{Item}
use Rattle.vrt_markup.specs.declared.items.Item.TheVariants.{NoMemory, Bad, Comment, Run, Open, Close}

abbrev pub tag_view : Tag → items.Tag
tag_view t = record { name = t.name.now; pairs = (pairs t.attributes.now).0; empty = t.empty }

-- what was found is the item, unless memory was refused
abbrev pub Finds : Item → items.Item → Type 0
Finds NoMemory item = Unit {0}
Finds Bad item = bad ≡ item
Finds (Comment rest) item = comment rest.now ≡ item
Finds (Run text rest) item = run text.now rest.now ≡ item
Finds (Open tag rest) item = open_tag (tag_view tag) rest.now ≡ item
Finds (Close name rest) item = close_tag name.now rest.now ≡ item

-- what stands behind it is shorter
abbrev pub Shortens : Item → List ℕ → Type 0
Shortens NoMemory text = Unit {0}
Shortens Bad text = Unit {0}
Shortens (Comment rest) text = length rest.now < length text
Shortens (Run front rest) text = length rest.now < length text
Shortens (Open tag rest) text = length rest.now < length text
Shortens (Close name rest) text = length rest.now < length text

abbrev pub past : ForestRead → Result (List ℕ) VrtFault
past (Ok x) = Ok x.1
past (Err e) = Err e

abbrev pub plain_text : Plain → List ℕ
plain_text (Lent text) = text.now
plain_text (Own text) = text.items

abbrev pub text_view : Words → List ℕ × Option ℕ
text_view w = (plain_text w.text, w.child)

abbrev pub result_view : {A B : Type 0} → (A → B) → Result A VrtFault → Result B VrtFault
result_view view (Ok x) = Ok (view x)
result_view view (Err e) = Err e

abbrev pub root_view : Root → tree.Root
root_view r = record { place = r.place; tag = tag_view r.tag; rest = r.rest.now }
