use Rattle.std.proofs.Common.{◌∙◌, codes, refl}
use Rattle.vrt_profile.proofs.rect.rect_texts.Goals as goal

pub returns-clause-y : goal.returns-clause-y
returns-clause-y c = c.attribute_front-2.ensures.value ∙ c.attribute_front.ensures.others (codes "yOff") refl

pub returns-clause-w : goal.returns-clause-w
returns-clause-w c =
    c.attribute_front-3.ensures.value
    ∙ c.attribute_front-2.ensures.others (codes "xSize") refl
    ∙ c.attribute_front.ensures.others (codes "xSize") refl

pub returns-clause-h : goal.returns-clause-h
returns-clause-h c =
    c.attribute_front-4.ensures.value
    ∙ c.attribute_front-3.ensures.others (codes "ySize") refl
    ∙ c.attribute_front-2.ensures.others (codes "ySize") refl
    ∙ c.attribute_front.ensures.others (codes "ySize") refl
