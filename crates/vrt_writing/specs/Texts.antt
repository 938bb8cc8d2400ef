-- The texts of a document.
use Rattle.std.specs.Prelude.{IsUtf8}
use Rattle.vrt_markup.specs.Forest.{Forest, stop, text, element, text_of}

-- The text of each element is UTF-8, however deep it stands.
abbrev pub AreTexts : Forest → Type 0
AreTexts stop = Unit {0}
AreTexts (text raw more) = AreTexts more
AreTexts (element place tag inside more) = IsUtf8 (text_of inside) × AreTexts inside × AreTexts more
